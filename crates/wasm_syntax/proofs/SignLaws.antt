-- The extension of a sign, by cases on the sign.
use Rattle.std.proofs.Common.{◌≡◌, refl, ℕ, ◌+◌, ◌%◌, ◌^◌, ◌<◌, ◌≤◌, to_z, of_z, arith}
use Rattle.std.proofs.lemmas.Int.{ints}
use Rattle.std.specs.Int.{w8, w16, w32, w64}
use Rattle.wasm_syntax.specs.declared.types.ValueType.TheVariants.{I32, I64}
use Rattle.wasm_syntax.specs.declared.instr.Instr.TheVariants as instr
use Rattle.wasm_syntax.specs.Operators.{extend_low}
use Rattle.wasm_syntax.specs.Extensions.{ExtendsSign}

-- of the low bits alone
low_8_32 : (n : ℕ) → n < 2 ^ 7 → of_z w32 (to_z w8 n) ≡ n
low_8_32 n h = grind (arith, ints)

high_8_32 : (n : ℕ) → 2 ^ 7 ≤ n → n < 2 ^ 8 → of_z w32 (to_z w8 n) + 2 ^ 8 ≡ n + 2 ^ 32
high_8_32 n h k = grind (arith, ints)

low_16_32 : (n : ℕ) → n < 2 ^ 15 → of_z w32 (to_z w16 n) ≡ n
low_16_32 n h = grind (arith, ints)

high_16_32 : (n : ℕ) → 2 ^ 15 ≤ n → n < 2 ^ 16 → of_z w32 (to_z w16 n) + 2 ^ 16 ≡ n + 2 ^ 32
high_16_32 n h k = grind (arith, ints)

low_8_64 : (n : ℕ) → n < 2 ^ 7 → of_z w64 (to_z w8 n) ≡ n
low_8_64 n h = grind (arith, ints)

high_8_64 : (n : ℕ) → 2 ^ 7 ≤ n → n < 2 ^ 8 → of_z w64 (to_z w8 n) + 2 ^ 8 ≡ n + 2 ^ 64
high_8_64 n h k = grind (arith, ints)

low_16_64 : (n : ℕ) → n < 2 ^ 15 → of_z w64 (to_z w16 n) ≡ n
low_16_64 n h = grind (arith, ints)

high_16_64 : (n : ℕ) → 2 ^ 15 ≤ n → n < 2 ^ 16 → of_z w64 (to_z w16 n) + 2 ^ 16 ≡ n + 2 ^ 64
high_16_64 n h k = grind (arith, ints)

low_32_64 : (n : ℕ) → n < 2 ^ 31 → of_z w64 (to_z w32 n) ≡ n
low_32_64 n h = grind (arith, ints)

high_32_64 : (n : ℕ) → 2 ^ 31 ≤ n → n < 2 ^ 32 → of_z w64 (to_z w32 n) + 2 ^ 32 ≡ n + 2 ^ 64
high_32_64 n h k = grind (arith, ints)

pub byte : ExtendsSign instr.I32Extend8S I32 8
byte = (extend_low I32 w8, refl, λ i. (λ h. low_8_32 (i % 2 ^ 8) h, λ h. high_8_32 (i % 2 ^ 8) h (omega arith)))

pub half : ExtendsSign instr.I32Extend16S I32 16
half = (extend_low I32 w16, refl, λ i. (λ h. low_16_32 (i % 2 ^ 16) h, λ h. high_16_32 (i % 2 ^ 16) h (omega arith)))

pub byte_to_long : ExtendsSign instr.I64Extend8S I64 8
byte_to_long = (extend_low I64 w8, refl, λ i. (λ h. low_8_64 (i % 2 ^ 8) h, λ h. high_8_64 (i % 2 ^ 8) h (omega arith)))

pub half_to_long : ExtendsSign instr.I64Extend16S I64 16
half_to_long = (extend_low I64 w16, refl, λ i. (λ h. low_16_64 (i % 2 ^ 16) h, λ h. high_16_64 (i % 2 ^ 16) h (omega arith)))

pub word_to_long : ExtendsSign instr.I64Extend32S I64 32
word_to_long = (extend_low I64 w32, refl, λ i. (λ h. low_32_64 (i % 2 ^ 32) h, λ h. high_32_64 (i % 2 ^ 32) h (omega arith)))
