-- The table as typing reads it, a second time: by ranges of opcode bytes (WebAssembly Core 1.0 sections 3.3 and
-- 5.4, and the same of Core 2.0 for sign extension, memory.copy and memory.fill).
use Rattle.std.specs.Prelude.{◌≡◌, ℕ, ℤ, suc, Bool, true, false, ◌&&◌, not, List, [], ◌∷◌, nat_le, if◌then◌else◌}
use Rattle.wasm_syntax.specs.declared.types.ValueType.{ValueType}
use Rattle.wasm_syntax.specs.declared.types.ValueType.TheVariants.{I32, I64}
use Rattle.wasm_syntax.specs.declared.opcode.OpcodeByte.{OpcodeByte}
use Rattle.wasm_syntax.specs.declared.opcode.OpcodeByte.TheVariants.{Known, Float, Unknown}
use Rattle.wasm_syntax.specs.declared.instr.Instr.{Instr}
use Rattle.wasm_syntax.specs.declared.instr.BlockType.{BlockType}
use Rattle.wasm_syntax.specs.declared.instr.MemoryArgument.{MemoryArgument}
use Rattle.wasm_syntax.specs.declared.row.Row.{Row}
use Rattle.wasm_syntax.specs.declared.row.Row.TheVariants as row
use Rattle.wasm_syntax.specs.declared.opcode.Prefixed.{Prefixed}
use Rattle.wasm_syntax.specs.Opcodes.{Shape, Plain, WithBlock, WithIndex, WithLabels, WithTypeAndZero, WithMemory, WithZero, WithWord, WithLong, WithNumber}
use Rattle.wasm_syntax.specs.Rows.{row_of}

-- The row of a byte, before what the instruction adds to it.
pub data Form : Type 0 where
  -- it adds nothing
  exactly : Row → Form
  -- the type of a block
  by_block : (BlockType → Row) → Form
  -- an index; of a `br_table` the label for every other operand
  by_index : (ℕ → Row) → Form
  -- the exponent of an alignment
  by_alignment : (ℕ → Row) → Form
  -- the byte is no opcode of the profile
  no_row : Form

-- the bytes from the first to the last
pub record Range : Type 0 where
  pub first : ℕ
  pub last : ℕ
  pub form : Form

abbrev from_to : ℕ → ℕ → Form → Range
from_to first last form = record { first = first; last = last; form = form }

abbrev one : ℕ → Form → Range
one byte form = record { first = byte; last = byte; form = form }

-- of a load and a store the type, and the exponent of the width
abbrev load : ValueType → ℕ → Form
load t width = by_alignment (row.Load t width)

abbrev store : ValueType → ℕ → Form
store t width = by_alignment (row.Store t width)

abbrev pub ranges : List Range
ranges =
    one 0x00 (exactly row.Unreachable)
    ∷ one 0x01 (exactly row.Nop)
    ∷ one 0x02 (by_block row.Block)
    ∷ one 0x03 (by_block row.Loop)
    ∷ one 0x04 (by_block row.If)
    ∷ one 0x05 (exactly row.Else)
    ∷ one 0x0B (exactly row.End)
    ∷ one 0x0C (by_index row.Br)
    ∷ one 0x0D (by_index row.BrIf)
    ∷ one 0x0E (by_index row.BrTable)
    ∷ one 0x0F (exactly row.Return)
    ∷ one 0x10 (by_index row.Call)
    ∷ one 0x11 (by_index row.CallIndirect)
    ∷ one 0x1A (exactly row.Drop)
    ∷ one 0x1B (exactly row.Select)
    ∷ one 0x20 (by_index row.LocalGet)
    ∷ one 0x21 (by_index row.LocalSet)
    ∷ one 0x22 (by_index row.LocalTee)
    ∷ one 0x23 (by_index row.GlobalGet)
    ∷ one 0x24 (by_index row.GlobalSet)
    ∷ one 0x28 (load I32 2)
    ∷ one 0x29 (load I64 3)
    -- 8 bits of i32, 16 bits of it, and then 8, 16 and 32 bits of i64: each signed and unsigned
    ∷ from_to 0x2C 0x2D (load I32 0)
    ∷ from_to 0x2E 0x2F (load I32 1)
    ∷ from_to 0x30 0x31 (load I64 0)
    ∷ from_to 0x32 0x33 (load I64 1)
    ∷ from_to 0x34 0x35 (load I64 2)
    ∷ one 0x36 (store I32 2)
    ∷ one 0x37 (store I64 3)
    ∷ one 0x3A (store I32 0)
    ∷ one 0x3B (store I32 1)
    ∷ one 0x3C (store I64 0)
    ∷ one 0x3D (store I64 1)
    ∷ one 0x3E (store I64 2)
    ∷ one 0x3F (exactly row.MemorySize)
    ∷ one 0x40 (exactly row.MemoryGrow)
    ∷ one 0x41 (exactly (row.Const I32))
    ∷ one 0x42 (exactly (row.Const I64))
    -- the test and the comparisons of i32, and those of i64
    ∷ one 0x45 (exactly (row.Unary I32 I32))
    ∷ from_to 0x46 0x4F (exactly (row.Binary I32 I32))
    ∷ one 0x50 (exactly (row.Unary I64 I32))
    ∷ from_to 0x51 0x5A (exactly (row.Binary I64 I32))
    -- clz, ctz and popcnt, and then add to rotr
    ∷ from_to 0x67 0x69 (exactly (row.Unary I32 I32))
    ∷ from_to 0x6A 0x78 (exactly (row.Binary I32 I32))
    ∷ from_to 0x79 0x7B (exactly (row.Unary I64 I64))
    ∷ from_to 0x7C 0x8A (exactly (row.Binary I64 I64))
    -- the conversions between integers
    ∷ one 0xA7 (exactly (row.Unary I64 I32))
    ∷ from_to 0xAC 0xAD (exactly (row.Unary I32 I64))
    -- the extensions of the sign, of i32 and of i64
    ∷ from_to 0xC0 0xC1 (exactly (row.Unary I32 I32))
    ∷ from_to 0xC2 0xC4 (exactly (row.Unary I64 I64))
    -- what a number behind it says, each of the same types
    ∷ one 0xFC (exactly row.BulkMemory)
    ∷ []

abbrev pub form_in : List Range → ℕ → Form
form_in [] byte = no_row
form_in (r ∷ rs) byte = if nat_le r.first byte && nat_le byte r.last then r.form else form_in rs byte

abbrev pub form_at : ℕ → Form
form_at byte = form_in ranges byte

-- An instruction is of the shape, and its row is that of the form, with what it adds.
abbrev pub HasRow : Shape → Form → Instr → Type 0
HasRow (Plain j) (exactly r) i = (i ≡ j) × (row_of i ≡ r)
HasRow (WithZero j) (exactly r) i = (i ≡ j) × (row_of i ≡ r)
HasRow (WithWord f) (exactly r) i = (v : ℤ) × (i ≡ f v) × (row_of i ≡ r)
HasRow (WithLong f) (exactly r) i = (v : ℤ) × (i ≡ f v) × (row_of i ≡ r)
HasRow (WithNumber f) (exactly r) i = (x : Prefixed) × (i ≡ f x) × (row_of i ≡ r)
HasRow (WithBlock f) (by_block g) i = (t : BlockType) × (i ≡ f t) × (row_of i ≡ g t)
HasRow (WithIndex f) (by_index g) i = (x : ℕ) × (i ≡ f x) × (row_of i ≡ g x)
HasRow (WithTypeAndZero f) (by_index g) i = (x : ℕ) × (i ≡ f x) × (row_of i ≡ g x)
HasRow (WithLabels f) (by_index g) i = (labels : List ℕ) × (x : ℕ) × (i ≡ f labels x) × (row_of i ≡ g x)
HasRow (WithMemory f) (by_alignment g) i = (a : MemoryArgument) × (i ≡ f a) × (row_of i ≡ g a.align)
HasRow shape form i = ⊥

-- each range lies behind the one before it
abbrev pub ascend_from : ℕ → List Range → Bool
ascend_from n [] = true
ascend_from n (r ∷ rs) = (nat_le n r.first && nat_le r.first r.last) && ascend_from (suc r.last) rs

abbrev has_row : Form → Bool
has_row no_row = false
has_row form = true

-- of the entries from a byte on the opcodes of the profile have a row, and the others have none
abbrev pub cover_from : ℕ → List OpcodeByte → Bool
cover_from n [] = true
cover_from n (Known o ∷ es) = has_row (form_at n) && cover_from (suc n) es
cover_from n (Float ∷ es) = not (has_row (form_at n)) && cover_from (suc n) es
cover_from n (Unknown ∷ es) = not (has_row (form_at n)) && cover_from (suc n) es
