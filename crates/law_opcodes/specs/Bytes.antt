-- What the byte of an opcode does to written-out operands and memory.
use Rattle.std.specs.Prelude.{◌≡◌, ℕ, suc, ◌+◌, List, [], ◌∷◌}
use Rattle.gate_base.specs.declared.cause.Cause.{Cause}
use Rattle.wasm_syntax.specs.declared.types.Value.{Value}
use Rattle.wasm_syntax.specs.declared.types.Value.TheVariants as value
use Rattle.wasm_syntax.specs.declared.opcode.OpcodeByte.{OpcodeByte}
use Rattle.wasm_syntax.specs.declared.opcode.OpcodeByte.TheVariants.{Known, Float, Unknown}
use Rattle.wasm_syntax.specs.Nested.{nothing}
use Rattle.wasm_syntax.specs.Reduction.{Reduced, code, goes, paid, trapping}
use Rattle.wasm_reader.specs.Spellings.{does, leaves}

-- of one operand it leaves one value
abbrev pub makes : (byte : ℕ) → (operand value : Value) → Type 0
makes byte v w = does (byte ∷ 0x0B ∷ []) [] (v ∷ []) ≡ leaves w

-- of two operands it leaves one value
abbrev pub combines : (byte : ℕ) → (first second value : Value) → Type 0
combines byte v w x = does (byte ∷ 0x0B ∷ []) [] (w ∷ v ∷ []) ≡ leaves x

-- of two operands it leaves nothing: it traps
abbrev pub traps : (byte : ℕ) → (first second : Value) → Cause → Type 0
traps byte v w cause = does (byte ∷ 0x0B ∷ []) [] (w ∷ v ∷ []) ≡ trapping cause

-- by as many bits as the number has it leaves the number, and by three bits more what it makes of it by three
abbrev pub counts_modulo : (byte : ℕ) → (number : ℕ → Value) → (width v by_three : ℕ) → Type 0
counts_modulo byte number width v by_three =
    combines byte (number v) (number width) (number v)
    × combines byte (number v) (number 3) (number by_three)
    × combines byte (number v) (number (width + 3)) (number by_three)

-- what it says of -1, which is `most`, and 1; of 1 and 1; of 1 and 2; and of 2 and 1
abbrev pub compares : (byte : ℕ) → (number : ℕ → Value) → (most a b c d : ℕ) → Type 0
compares byte number most a b c d =
    combines byte (number most) (number 1) (value.I32 a)
    × combines byte (number 1) (number 1) (value.I32 b)
    × combines byte (number 1) (number 2) (value.I32 c)
    × combines byte (number 2) (number 1) (value.I32 d)

abbrev read_from : List ℕ
read_from = 0x80 ∷ 0x91 ∷ 0xA2 ∷ 0xB3 ∷ 0xC4 ∷ 0xD5 ∷ 0xE6 ∷ 0xF7 ∷ 0x08 ∷ []

-- for a unit it leaves these values, the topmost first, and this memory
abbrev leaves_over : List ℕ → List Value → Reduced
leaves_over memory vs = goes paid (record { memory = memory; table = []; globals = [] }) [] (code vs nothing)

-- what it reads at address 0; of a memory that has one byte more in front, by an offset of 1, and at address 1; and of one that has two more, by that offset at
-- that address
abbrev pub loads : (byte : ℕ) → Value → Type 0
loads byte v =
    (does (byte ∷ 0x00 ∷ 0x00 ∷ 0x0B ∷ []) read_from (value.I32 0 ∷ []) ≡ leaves_over read_from (v ∷ []))
    × (does (byte ∷ 0x00 ∷ 0x01 ∷ 0x0B ∷ []) (0x77 ∷ read_from) (value.I32 0 ∷ []) ≡ leaves_over (0x77 ∷ read_from) (v ∷ []))
    × (does (byte ∷ 0x00 ∷ 0x00 ∷ 0x0B ∷ []) (0x77 ∷ read_from) (value.I32 1 ∷ []) ≡ leaves_over (0x77 ∷ read_from) (v ∷ []))
    × (does (byte ∷ 0x00 ∷ 0x01 ∷ 0x0B ∷ []) (0x66 ∷ 0x77 ∷ read_from) (value.I32 1 ∷ []) ≡ leaves_over (0x66 ∷ 0x77 ∷ read_from) (v ∷ []))

abbrev nines : List ℕ
nines = 9 ∷ 9 ∷ 9 ∷ 9 ∷ 9 ∷ 9 ∷ 9 ∷ 9 ∷ []

-- what it makes of eight bytes 9 at address 0; and in the same four ways
abbrev pub stores : (byte : ℕ) → Value → List ℕ → Type 0
stores byte v memory =
    (does (byte ∷ 0x00 ∷ 0x00 ∷ 0x0B ∷ []) nines (v ∷ value.I32 0 ∷ []) ≡ leaves_over memory [])
    × (does (byte ∷ 0x00 ∷ 0x01 ∷ 0x0B ∷ []) (0x77 ∷ nines) (v ∷ value.I32 0 ∷ []) ≡ leaves_over (0x77 ∷ memory) [])
    × (does (byte ∷ 0x00 ∷ 0x00 ∷ 0x0B ∷ []) (0x77 ∷ nines) (v ∷ value.I32 1 ∷ []) ≡ leaves_over (0x77 ∷ memory) [])
    × (does (byte ∷ 0x00 ∷ 0x01 ∷ 0x0B ∷ []) (0x66 ∷ 0x77 ∷ nines) (v ∷ value.I32 1 ∷ []) ≡ leaves_over (0x66 ∷ 0x77 ∷ memory) [])

-- the numbers of the entries of floating point, of those from a number on
abbrev pub floats_from : ℕ → List OpcodeByte → List ℕ
floats_from n [] = []
floats_from n (Float ∷ es) = n ∷ floats_from (suc n) es
floats_from n (Known o ∷ es) = floats_from (suc n) es
floats_from n (Unknown ∷ es) = floats_from (suc n) es
