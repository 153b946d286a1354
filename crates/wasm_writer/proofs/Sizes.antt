-- The bytes of a size that a loop has written so far, and those that are still to come.
use Rattle.std.proofs.Common.{◌≡◌, ℕ, zero, suc, ◌+◌, ◌*◌, ◌/◌, ◌%◌, ◌^◌, ◌<◌, ◌≤◌, ◌++◌, List, [], ◌∷◌, Result, Ok, Err, refl, sym, ap, ◌∙◌, append_assoc, arith}
use Rattle.std.specs.Prelude.{OnOk}
use Rattle.std.proofs.Math.Nat.{pow-suc}
use Rattle.wasm_syntax.specs.Numbers.{unsigned_bytes}
use Rattle.wasm_syntax.proofs.Written.{unsigned_bytes_more, unsigned_bytes_last}
use Rattle.wasm_writer.specs.Written.{size_bytes}

pub record IsSizeSoFar (old out : List ℕ) (n rest : ℕ) : Type 0 where
  pub more : ℕ
  pub small : rest < 2 * 128 ^ more
  pub joined : out ++ unsigned_bytes more rest ≡ old ++ size_bytes n

pub size_starts : (old : List ℕ) (n : ℕ) → n < 2 ^ 64 → IsSizeSoFar old old n n
size_starts old n lt = record { more = 9; small = omega arith; joined = refl }

goes_on : (more : ℕ) (old out : List ℕ) (n rest : ℕ) → rest < 2 * 128 ^ more → out ++ unsigned_bytes more rest ≡ old ++ size_bytes n → 128 ≤ rest → IsSizeSoFar old (out ++ (128 + rest % 128) ∷ []) n (rest / 128)
goes_on zero old out n rest small joined le = absurd (omega arith)
goes_on (suc more) old out n rest small joined le =
    let p : 128 ^ suc more ≡ 128 * 128 ^ more = rw pow-suc (omega arith) in
    let bound : rest < 2 * (128 * 128 ^ more) = rw (← p) small in
    record {
      more = more;
      small = omega arith;
      joined = append_assoc out ((128 + rest % 128) ∷ []) (unsigned_bytes more (rest / 128)) ∙ ap (λ (l : List ℕ). out ++ l) (sym (unsigned_bytes_more more rest le)) ∙ joined;
    }

pub size_goes_on : (old out new : List ℕ) (n rest : ℕ) → IsSizeSoFar old out n rest → 128 ≤ rest → new ≡ out ++ (128 + rest % 128) ∷ [] → IsSizeSoFar old new n (rest / 128)
size_goes_on old out new n rest h le e = rw e (goes_on h.more old out n rest h.small h.joined le)

size_ends : (old out new : List ℕ) (n rest : ℕ) → IsSizeSoFar old out n rest → rest < 128 → new ≡ out ++ rest ∷ [] → new ≡ old ++ size_bytes n
size_ends old out new n rest h lt e = e ∙ ap (λ (l : List ℕ). out ++ l) (sym (unsigned_bytes_last h.more rest lt)) ∙ h.joined

pub size_is_written : {T E : Type 0} (r : Result T E) (old out new : List ℕ) (n rest : ℕ) → IsSizeSoFar old out n rest → rest < 128 → OnOk r (new ≡ out ++ rest ∷ []) → OnOk r (new ≡ old ++ size_bytes n)
size_is_written (Ok x) old out new n rest h lt e = size_ends old out new n rest h lt e
size_is_written (Err d) old out new n rest h lt e = e
