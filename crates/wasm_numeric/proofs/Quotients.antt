-- The quotient of two signed readings has its bits.
use Rattle.std.proofs.Common.{◌≡◌, sym, ap, ap₂, ◌∙◌, nat_eq, false, Ok, SFits, ℕ, zero, suc, ◌/◌, ℤ, pos, negsuc, neg_ℤ, int_div, unsigned_abs, Fits, to_z, of_z, pow_pos, arith}
use Rattle.std.proofs.lemmas.Int.{ints}
use Rattle.std.proofs.Math.Facts.{of_z-to_z, to_z-of_z, Fits-div}
use Rattle.std.specs.Int.{Width, w32, w64}
use Rattle.wasm_syntax.specs.declared.types.ValueType.{ValueType}
use Rattle.wasm_syntax.specs.Operators.{signed, unsigned, is_least_by_minus_one, idiv_s}

minus_fits : (w : Width) (k : ℕ) → Fits w (of_z w (neg_ℤ (pos k)))
minus_fits w zero = record { fits = pow_pos _ }
minus_fits w (suc k) = record { fits = omega (arith, pow_pos) }

quotient_fits : (w : Width) (a d : ℤ) → Fits w (unsigned_abs a) → Fits w (of_z w (int_div a d))
quotient_fits w (pos a) (pos d) f = Fits-div d f
quotient_fits w (pos a) (negsuc d) f = minus_fits w (a / suc d)
quotient_fits w (negsuc a) (pos d) f = minus_fits w (suc a / d)
quotient_fits w (negsuc a) (negsuc d) f = Fits-div (suc d) f

size_fits_32 : (n : ℕ) → Fits w32 n → Fits w32 (unsigned_abs (to_z w32 n))
size_fits_32 n f = record { fits = grind (arith, ints, f.fits) }

size_fits_64 : (n : ℕ) → Fits w64 n → Fits w64 (unsigned_abs (to_z w64 n))
size_fits_64 n f = record { fits = grind (arith, ints, f.fits) }

pub quotient_32 : (x y : ℕ) → Fits w32 x → of_z w32 (to_z w32 (of_z w32 (int_div (to_z w32 x) (to_z w32 y)))) ≡ of_z w32 (int_div (to_z w32 x) (to_z w32 y))
quotient_32 x y f = of_z-to_z (quotient_fits w32 (to_z w32 x) (to_z w32 y) (size_fits_32 x f))

pub quotient_64 : (x y : ℕ) → Fits w64 x → of_z w64 (to_z w64 (of_z w64 (int_div (to_z w64 x) (to_z w64 y)))) ≡ of_z w64 (int_div (to_z w64 x) (to_z w64 y))
quotient_64 x y f = of_z-to_z (quotient_fits w64 (to_z w64 x) (to_z w64 y) (size_fits_64 x f))

read_32 : (x : ℕ) (a : ℤ) → Fits w32 x → a ≡ to_z w32 x → to_z w32 (of_z w32 a) ≡ to_z w32 x
read_32 x a f is_x = ap (λ (z : ℤ). to_z w32 (of_z w32 z)) is_x ∙ ap (to_z w32) (of_z-to_z f)

read_64 : (x : ℕ) (a : ℤ) → Fits w64 x → a ≡ to_z w64 x → to_z w64 (of_z w64 a) ≡ to_z w64 x
read_64 x a f is_x = ap (λ (z : ℤ). to_z w64 (of_z w64 z)) is_x ∙ ap (to_z w64) (of_z-to_z f)

-- what dividing the readings leaves, where each number is written and read back on the way
pub divided_32 : (x y : ℕ) (a d q : ℤ) (n : ℕ) → Fits w32 x → Fits w32 y → a ≡ to_z w32 x → d ≡ to_z w32 y → SFits w32 q
    → q ≡ to_z w32 (of_z w32 (int_div (to_z w32 (of_z w32 a)) (to_z w32 (of_z w32 d)))) → n ≡ of_z w32 (to_z w32 (of_z w32 q)) → n ≡ of_z w32 (int_div (to_z w32 x) (to_z w32 y))
divided_32 x y a d q n f g is_x is_y h is_q is_n =
    is_n ∙ ap (of_z w32) (to_z-of_z h) ∙ ap (of_z w32) is_q
    ∙ ap₂ (λ (i j : ℤ). of_z w32 (to_z w32 (of_z w32 (int_div i j)))) (read_32 x a f is_x) (read_32 y d g is_y)
    ∙ quotient_32 x y f

pub divided_64 : (x y : ℕ) (a d q : ℤ) (n : ℕ) → Fits w64 x → Fits w64 y → a ≡ to_z w64 x → d ≡ to_z w64 y → SFits w64 q
    → q ≡ to_z w64 (of_z w64 (int_div (to_z w64 (of_z w64 a)) (to_z w64 (of_z w64 d)))) → n ≡ of_z w64 (to_z w64 (of_z w64 q)) → n ≡ of_z w64 (int_div (to_z w64 x) (to_z w64 y))
divided_64 x y a d q n f g is_x is_y h is_q is_n =
    is_n ∙ ap (of_z w64) (to_z-of_z h) ∙ ap (of_z w64) is_q
    ∙ ap₂ (λ (i j : ℤ). of_z w64 (to_z w64 (of_z w64 (int_div i j)))) (read_64 x a f is_x) (read_64 y d g is_y)
    ∙ quotient_64 x y f

-- a quotient that has a value
pub has_value : (t : ValueType) (x y n : ℕ) → nat_eq y 0 ≡ false → is_least_by_minus_one t x y ≡ false → n ≡ unsigned t (int_div (signed t x) (signed t y)) → idiv_s t x y ≡ Ok n
has_value t x y n zero_not least_not is_n = rw zero_not (rw least_not (ap (λ m. Ok m) (sym is_n)))
