-- What the extension of a sign is, in plain arithmetic.
use Rattle.std.specs.Prelude.{◌≡◌, ℕ, ◌+◌, ◌-◌, ◌%◌, ◌^◌, ◌<◌, ◌≤◌}
use Rattle.wasm_syntax.specs.declared.types.ValueType.{ValueType}
use Rattle.wasm_syntax.specs.declared.instr.Instr.{Instr}
use Rattle.wasm_syntax.specs.Operators.{size}
use Rattle.wasm_syntax.specs.Numeric.{one, numeric_of}

-- Of so many low bits, in a number of so many: without a sign they stay, and with one they stand for 2 ^ low less.
abbrev pub Extends : (size low : ℕ) → (ℕ → ℕ) → Type 0
Extends size low f = (i : ℕ) → (i % 2 ^ low < 2 ^ (low - 1) → f i ≡ i % 2 ^ low) × (2 ^ (low - 1) ≤ i % 2 ^ low → f i + 2 ^ low ≡ i % 2 ^ low + 2 ^ size)

-- The instruction is an operator of that type which extends the sign of so many low bits.
abbrev pub ExtendsSign : Instr → ValueType → ℕ → Type 0
ExtendsSign i t low = (f : ℕ → ℕ) × (numeric_of i ≡ one t t f) × Extends (size t) low f
