use Rattle.std.proofs.Common.{◌≡◌, ℕ, List, ◌++◌, Result, Ok, refl, sym, ap, ◌∙◌, arith}
use Rattle.std.proofs.lemmas.List.{append_cancel_right}
use Rattle.wasm_syntax.specs.declared.leb.LebEnd.{LebEnd}
use Rattle.wasm_syntax.specs.Numbers.{u32_at, s32_at, s64_at}
use Rattle.wasm_syntax.proofs.NumberLaws.{unsigned_again, signed_again}
use Rattle.wasm_syntax.proofs.laws.one_spelling.Goals as goal

-- two readings of one input
same_reading : {A : Type 0} (reads : List ℕ → Result (A × List ℕ) LebEnd) (a b x y : List ℕ) (m n : A) → reads (a ++ x) ≡ Ok (m, x) → reads (b ++ y) ≡ Ok (n, y) → a ++ x ≡ b ++ y → (a ≡ b) × (m ≡ n)
same_reading {A = A} reads a b x y m n p q e =
    let r : Ok (m, x) ≡ Ok (n, y) = sym p ∙ (ap reads e ∙ q) in
    let pair : (m, x) ≡ (n, y) = cc in
    let rest : x ≡ y = ap (λ (z : A × List ℕ). z.1) pair in
    (append_cancel_right a b y (ap (λ (l : List ℕ). a ++ l) (sym rest) ∙ e), ap (λ (z : A × List ℕ). z.0) pair)

pub returns : goal.returns
returns c = record {
  unsigned = λ a b x y m n p q e. same_reading u32_at a b x y m n (unsigned_again 4 4 32 a m x (omega arith) refl p) (unsigned_again 4 4 32 b n y (omega arith) refl q) e;
  word = λ a b x y m n p q e. same_reading s32_at a b x y m n (signed_again 4 4 32 a m x (omega arith) refl p) (signed_again 4 4 32 b n y (omega arith) refl q) e;
  long = λ a b x y m n p q e. same_reading s64_at a b x y m n (signed_again 1 9 64 a m x (omega arith) refl p) (signed_again 1 9 64 b n y (omega arith) refl q) e;
}
