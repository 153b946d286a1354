-- Signed readings, and the one quotient of them that is too large.
use Rattle.std.proofs.Common.{◌≡◌, ◌↔◌, refl, sym, ap, ap₂, ◌∙◌, ℕ, zero, suc, ◌+◌, ◌-◌, ◌/◌, ◌^◌, ◌<◌, ◌≤◌, ℤ, pos, negsuc, neg_ℤ, ◌-ℤ◌, int_div, int_rem, unsigned_abs, ◌%◌, ◌≤ℤ◌, to_z, of_z, arith}
use Rattle.std.proofs.lemmas.Int.{ints, of_z-to_z}
use Rattle.std.proofs.lemmas.Nat.{leading_top}
use Rattle.std.proofs.Math.Nat.{zero-mod, div-le_self, div-lt_self}
use Rattle.std.specs.Int.{w32, w64}
use Rattle.std.specs.Int.Signed.{mag}
use Rattle.wasm_syntax.specs.declared.types.ValueType.{ValueType}
use Rattle.wasm_syntax.specs.declared.types.ValueType.TheVariants.{I32, I64}
use Rattle.wasm_syntax.specs.Operators.{size, signed, unsigned, iclz}

pub low : (t : ValueType) (i : ℕ) → i < 2 ^ (size t - 1) → signed t i ≡ pos i
low I32 i h = omega (arith, ints)
low I64 i h = omega (arith, ints)

high_32 : (i : ℕ) → 2 ^ 31 ≤ i → i < 2 ^ 32 → to_z w32 i ≡ pos i -ℤ pos (2 ^ 32)
high_32 i h k = grind (arith, ints)

high_64 : (i : ℕ) → 2 ^ 63 ≤ i → i < 2 ^ 64 → to_z w64 i ≡ pos i -ℤ pos (2 ^ 64)
high_64 i h k = grind (arith, ints)

pub high : (t : ValueType) (i : ℕ) → 2 ^ (size t - 1) ≤ i → i < 2 ^ size t → signed t i ≡ pos i -ℤ pos (2 ^ size t)
high I32 i h k = high_32 i h k
high I64 i h k = high_64 i h k

pub back : (t : ValueType) (i : ℕ) → i < 2 ^ size t → unsigned t (signed t i) ≡ i
back I32 i h = of_z-to_z w32 i h
back I64 i h = of_z-to_z w64 i h

-- ---- the quotient

minus_is_not : (k h : ℕ) → 0 < h → neg_ℤ (pos k) ≡ pos h → ⊥
minus_is_not zero h some e = omega (arith, ints)
minus_is_not (suc k) h some e = omega (arith, ints)

too_large : (h : ℕ) (a d : ℤ) → 0 < h → mag a < h → int_div a d ≡ pos h → (a ≡ negsuc (h - 1)) × (d ≡ negsuc 0)
too_large h (pos a) (pos d) some fits e = absurd (let l = div-le_self a d in let q : a / d ≡ h = omega (arith, ints) in omega (arith, l, q))
too_large h (pos a) (negsuc d) some fits e = absurd (minus_is_not (a / suc d) h some e)
too_large h (negsuc a) (pos d) some fits e = absurd (minus_is_not (suc a / d) h some e)
too_large h (negsuc a) (negsuc zero) some fits e =
    let l = div-le_self (suc a) 1 in
    let q : suc a / 1 ≡ h = omega (arith, ints) in
    (ap (λ (n : ℕ). negsuc n) (omega (arith, l, q)), refl)
too_large h (negsuc a) (negsuc (suc d)) some fits e =
    let l : suc a / suc (suc d) < suc a = div-lt_self (omega arith) (omega arith) in
    let q : suc a / suc (suc d) ≡ h = omega (arith, ints) in
    absurd (omega (arith, l, q))

mag_of_32 : (i : ℕ) → i < 2 ^ 32 → mag (to_z w32 i) < 2 ^ 31
mag_of_32 i h = grind (arith, ints)

mag_of_64 : (i : ℕ) → i < 2 ^ 64 → mag (to_z w64 i) < 2 ^ 63
mag_of_64 i h = grind (arith, ints)

-- what reads as the least number, and as -1
least_32 : (i j : ℕ) → i < 2 ^ 32 → j < 2 ^ 32 → (to_z w32 i ≡ negsuc (2 ^ 31 - 1)) × (to_z w32 j ≡ negsuc 0) → (i ≡ 2 ^ 31) × (j ≡ 2 ^ 32 - 1)
least_32 i j h k p = (sym (of_z-to_z w32 i h) ∙ ap (of_z w32) p.0, sym (of_z-to_z w32 j k) ∙ ap (of_z w32) p.1)

least_64 : (i j : ℕ) → i < 2 ^ 64 → j < 2 ^ 64 → (to_z w64 i ≡ negsuc (2 ^ 63 - 1)) × (to_z w64 j ≡ negsuc 0) → (i ≡ 2 ^ 63) × (j ≡ 2 ^ 64 - 1)
least_64 i j h k p = (sym (of_z-to_z w64 i h) ∙ ap (of_z w64) p.0, sym (of_z-to_z w64 j k) ∙ ap (of_z w64) p.1)

pub one_quotient : (t : ValueType) (i j : ℕ) → i < 2 ^ size t → j < 2 ^ size t → (int_div (signed t i) (signed t j) ≡ pos (2 ^ (size t - 1))) ↔ ((i ≡ 2 ^ (size t - 1)) × (j ≡ 2 ^ size t - 1))
one_quotient I32 i j h k = (
  λ e. least_32 i j h k (too_large (2 ^ 31) (to_z w32 i) (to_z w32 j) (omega arith) (mag_of_32 i h) e),
  λ p. ap₂ (λ (x y : ℕ). int_div (to_z w32 x) (to_z w32 y)) p.0 p.1,
)
one_quotient I64 i j h k = (
  λ e. least_64 i j h k (too_large (2 ^ 63) (to_z w64 i) (to_z w64 j) (omega arith) (mag_of_64 i h) e),
  λ p. ap₂ (λ (x y : ℕ). int_div (to_z w64 x) (to_z w64 y)) p.0 p.1,
)

-- ---- the remainder

not_above : (k : ℕ) → neg_ℤ (pos k) ≤ℤ pos 0
not_above zero = omega (arith, ints)
not_above (suc k) = omega (arith, ints)

pub from_zero_on : (a d : ℤ) → pos 0 ≤ℤ a → pos 0 ≤ℤ int_rem a d
from_zero_on (pos a) d h = omega (arith, ints)
from_zero_on (negsuc a) d h = absurd (omega (arith, ints, h))

pub up_to_zero : (a d : ℤ) → a ≤ℤ pos 0 → int_rem a d ≤ℤ pos 0
up_to_zero (pos zero) d h = omega (arith, ints, zero-mod (unsigned_abs d))
up_to_zero (pos (suc a)) d h = absurd (omega (arith, ints, h))
up_to_zero (negsuc a) d h = not_above (suc a % unsigned_abs d)

-- ---- leading zeros

pub highest : (t : ValueType) (i : ℕ) → 0 < i → i < 2 ^ size t → (top : ℕ) × (iclz t i + suc top ≡ size t) × (2 ^ top ≤ i) × (i < 2 ^ suc top)
highest I32 i some h = leading_top 32 i some h
highest I64 i some h = leading_top 64 i some h

pub none : (t : ValueType) → iclz t 0 ≡ size t
unfolding lib.Count.count_leading_zeros
none I32 = refl
none I64 = refl
