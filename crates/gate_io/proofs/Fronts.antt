-- What a source has left after a read.
use Rattle.std.proofs.Common.{◌≡◌, ℕ, ◌+◌, ◌≤◌, List, ◌++◌, length, take, drop, sym, ap, ◌∙◌, Result, Ok, Err, OnErr, arith, length-append, Option, [], refl, subst, take-add}
use Rattle.std.proofs.lemmas.List.{take-append-drop, drop-drop}
use Rattle.gate_io.specs.Told.{Gains, GainsFront, Loses, loses_more, gains_more, gains_then_front}
use Rattle.gate_io.specs.Took.{Took}

-- the bytes left at a place are those that a room got, and the bytes behind them
pub left_is : (bytes room : List ℕ) (at n : ℕ) → take n room ≡ take n (drop at bytes) → drop at bytes ≡ take n room ++ drop (at + n) bytes
left_is bytes room at n same =
    sym (take-append-drop n (drop at bytes)) ∙ ap (λ (xs : List ℕ). xs ++ drop n (drop at bytes)) (sym same) ∙ ap (λ (xs : List ℕ). take n room ++ xs) (drop-drop n at bytes)

-- what holds anyway holds of an error
pub on_err : {T E : Type 0} (r : Result T E) (P : Type 0) → P → OnErr r P
on_err (Ok x) P p = tt
on_err (Err e) P p = p

-- what was taken before and one more piece
pub took_more : (old : Option (List ℕ)) (bytes : List ℕ) (mid : Option (List ℕ)) (piece : List ℕ) (new : Option (List ℕ)) (most : ℕ)
    → Loses old bytes mid → Loses mid piece new → length bytes + length piece ≤ most → Took old most new
took_more old bytes mid piece new most first second short = record {
  bytes = bytes ++ piece;
  taken = loses_more old bytes mid piece new first second;
  bounded = omega (arith, length-append bytes piece);
}

-- a write that took nothing more
pub front_only : (old : Option (List ℕ)) (bytes : List ℕ) (at : ℕ) (mid new : Option (List ℕ)) → Gains old (take at bytes) mid → Gains mid [] new → GainsFront old bytes new
front_only old bytes at mid new first none =
    subst (λ (xs : List ℕ). GainsFront old xs new) (take-append-drop at bytes)
    (gains_then_front old (take at bytes) mid (drop at bytes) new first (record { front = []; rest = drop at bytes; whole_is = refl; gained = none }))

-- a write that took more
pub front_more : (old : Option (List ℕ)) (bytes : List ℕ) (at n : ℕ) (mid new : Option (List ℕ)) → Gains old (take at bytes) mid → Gains mid (take n (drop at bytes)) new
    → Gains old (take (at + n) bytes) new
front_more old bytes at n mid new first second =
    subst (λ (xs : List ℕ). Gains old xs new) (sym (take-add at n bytes)) (gains_more old (take at bytes) mid (take n (drop at bytes)) new first second)
