-- What goes to a connection, and what waits for it.
use Rattle.std.proofs.Common.{◌≡◌, ◌⊎◌, inl, inr, ℕ, List, [], ◌++◌, take, drop, Result, Ok, Err, OnErr, ap, sym, ◌∙◌}
use Rattle.std.proofs.lemmas.List.{take-append-drop}

-- bytes of a piece that go where nothing waits
pub in_front : (n : ℕ) (waiting bytes : List ℕ) → (n ≡ 0) ⊎ (waiting ≡ []) → take n bytes ++ (waiting ++ drop n bytes) ≡ waiting ++ bytes
in_front n waiting bytes (inl none) = ap (λ k. take k bytes ++ (waiting ++ drop k bytes)) none
in_front n waiting bytes (inr empty) = ap (λ w. take n bytes ++ (w ++ drop n bytes)) empty ∙ take-append-drop n bytes ∙ ap (λ w. w ++ bytes) (sym empty)

-- what holds anyway
pub on_err : {T E : Type 0} (r : Result T E) (P : Type 0) → P → OnErr r P
on_err (Ok x) P p = tt
on_err (Err e) P p = p
