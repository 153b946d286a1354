-- The opcodes of the profile, and what stands behind each (WebAssembly Core 1.0 section 5.4, and Core 2.0 section 5.4 for
-- sign extension and the byte 0xFC).
use Rattle.std.specs.Prelude.{◌≡◌, ℕ, ℤ, Bool, true, false, List, [], ◌∷◌, nat_eq, nat_lt, suc, if◌then◌else◌}
use Rattle.wasm_syntax.specs.declared.opcode.Opcode.{Opcode}
use Rattle.wasm_syntax.specs.declared.opcode.Opcode.TheVariants as op
use Rattle.wasm_syntax.specs.declared.opcode.OpcodeByte.{OpcodeByte}
use Rattle.wasm_syntax.specs.declared.opcode.OpcodeByte.TheVariants.{Known, Float, Unknown}
use Rattle.wasm_syntax.specs.declared.opcode.Prefixed.{Prefixed}
use Rattle.wasm_syntax.specs.declared.opcode.Prefixed.TheVariants as prefixed
use Rattle.wasm_syntax.specs.declared.opcode.PrefixedNumber.{PrefixedNumber}
use Rattle.wasm_syntax.specs.declared.opcode.PrefixedNumber.TheVariants as number
use Rattle.wasm_syntax.specs.declared.instr.Instr.{Instr}
use Rattle.wasm_syntax.specs.declared.instr.Instr.TheVariants as instr
use Rattle.wasm_syntax.specs.declared.instr.BlockType.{BlockType}
use Rattle.wasm_syntax.specs.declared.instr.MemoryArgument.{MemoryArgument}

-- the byte of an opcode
abbrev pub byte_of : Opcode → ℕ
byte_of op.Unreachable = 0x00
byte_of op.Nop = 0x01
byte_of op.Block = 0x02
byte_of op.Loop = 0x03
byte_of op.If = 0x04
byte_of op.Else = 0x05
byte_of op.End = 0x0B
byte_of op.Br = 0x0C
byte_of op.BrIf = 0x0D
byte_of op.BrTable = 0x0E
byte_of op.Return = 0x0F
byte_of op.Call = 0x10
byte_of op.CallIndirect = 0x11
byte_of op.Drop = 0x1A
byte_of op.Select = 0x1B
byte_of op.LocalGet = 0x20
byte_of op.LocalSet = 0x21
byte_of op.LocalTee = 0x22
byte_of op.GlobalGet = 0x23
byte_of op.GlobalSet = 0x24
byte_of op.I32Load = 0x28
byte_of op.I64Load = 0x29
byte_of op.I32Load8S = 0x2C
byte_of op.I32Load8U = 0x2D
byte_of op.I32Load16S = 0x2E
byte_of op.I32Load16U = 0x2F
byte_of op.I64Load8S = 0x30
byte_of op.I64Load8U = 0x31
byte_of op.I64Load16S = 0x32
byte_of op.I64Load16U = 0x33
byte_of op.I64Load32S = 0x34
byte_of op.I64Load32U = 0x35
byte_of op.I32Store = 0x36
byte_of op.I64Store = 0x37
byte_of op.I32Store8 = 0x3A
byte_of op.I32Store16 = 0x3B
byte_of op.I64Store8 = 0x3C
byte_of op.I64Store16 = 0x3D
byte_of op.I64Store32 = 0x3E
byte_of op.MemorySize = 0x3F
byte_of op.MemoryGrow = 0x40
byte_of op.I32Const = 0x41
byte_of op.I64Const = 0x42
byte_of op.I32Eqz = 0x45
byte_of op.I32Eq = 0x46
byte_of op.I32Ne = 0x47
byte_of op.I32LtS = 0x48
byte_of op.I32LtU = 0x49
byte_of op.I32GtS = 0x4A
byte_of op.I32GtU = 0x4B
byte_of op.I32LeS = 0x4C
byte_of op.I32LeU = 0x4D
byte_of op.I32GeS = 0x4E
byte_of op.I32GeU = 0x4F
byte_of op.I64Eqz = 0x50
byte_of op.I64Eq = 0x51
byte_of op.I64Ne = 0x52
byte_of op.I64LtS = 0x53
byte_of op.I64LtU = 0x54
byte_of op.I64GtS = 0x55
byte_of op.I64GtU = 0x56
byte_of op.I64LeS = 0x57
byte_of op.I64LeU = 0x58
byte_of op.I64GeS = 0x59
byte_of op.I64GeU = 0x5A
byte_of op.I32Clz = 0x67
byte_of op.I32Ctz = 0x68
byte_of op.I32Popcnt = 0x69
byte_of op.I32Add = 0x6A
byte_of op.I32Sub = 0x6B
byte_of op.I32Mul = 0x6C
byte_of op.I32DivS = 0x6D
byte_of op.I32DivU = 0x6E
byte_of op.I32RemS = 0x6F
byte_of op.I32RemU = 0x70
byte_of op.I32And = 0x71
byte_of op.I32Or = 0x72
byte_of op.I32Xor = 0x73
byte_of op.I32Shl = 0x74
byte_of op.I32ShrS = 0x75
byte_of op.I32ShrU = 0x76
byte_of op.I32Rotl = 0x77
byte_of op.I32Rotr = 0x78
byte_of op.I64Clz = 0x79
byte_of op.I64Ctz = 0x7A
byte_of op.I64Popcnt = 0x7B
byte_of op.I64Add = 0x7C
byte_of op.I64Sub = 0x7D
byte_of op.I64Mul = 0x7E
byte_of op.I64DivS = 0x7F
byte_of op.I64DivU = 0x80
byte_of op.I64RemS = 0x81
byte_of op.I64RemU = 0x82
byte_of op.I64And = 0x83
byte_of op.I64Or = 0x84
byte_of op.I64Xor = 0x85
byte_of op.I64Shl = 0x86
byte_of op.I64ShrS = 0x87
byte_of op.I64ShrU = 0x88
byte_of op.I64Rotl = 0x89
byte_of op.I64Rotr = 0x8A
byte_of op.I32WrapI64 = 0xA7
byte_of op.I64ExtendI32S = 0xAC
byte_of op.I64ExtendI32U = 0xAD
byte_of op.I32Extend8S = 0xC0
byte_of op.I32Extend16S = 0xC1
byte_of op.I64Extend8S = 0xC2
byte_of op.I64Extend16S = 0xC3
byte_of op.I64Extend32S = 0xC4
byte_of op.Prefix = 0xFC

-- ---- the numbers behind the byte 0xFC

abbrev pub number_of : Prefixed → ℕ
number_of prefixed.MemoryCopy = 10
number_of prefixed.MemoryFill = 11

abbrev pub prefixed_instr : Prefixed → Instr
prefixed_instr prefixed.MemoryCopy = instr.MemoryCopy
prefixed_instr prefixed.MemoryFill = instr.MemoryFill

-- what a number says there: from 0 to 7 stand conversions of floating point
abbrev pub said_by : ℕ → PrefixedNumber
said_by n =
    if nat_lt n 8 then number.Float
    else (if nat_eq n 10 then number.Known prefixed.MemoryCopy else (if nat_eq n 11 then number.Known prefixed.MemoryFill else number.Unknown))

-- ---- what stands behind an opcode

-- What stands behind an opcode, with the instruction that it makes.
pub data Shape : Type 0 where
  -- nothing
  Plain : Instr → Shape
  -- the type of a block
  WithBlock : (BlockType → Instr) → Shape
  -- an index
  WithIndex : (ℕ → Instr) → Shape
  -- labels, and one more
  WithLabels : (List ℕ → ℕ → Instr) → Shape
  -- the index of a type, and a byte 0
  WithTypeAndZero : (ℕ → Instr) → Shape
  -- an alignment and an offset
  WithMemory : (MemoryArgument → Instr) → Shape
  -- a byte 0
  WithZero : Instr → Shape
  -- a signed number of 32 bits
  WithWord : (ℤ → Instr) → Shape
  -- a signed number of 64 bits
  WithLong : (ℤ → Instr) → Shape
  -- a number that says which of these it is, and its reserved bytes
  WithNumber : (Prefixed → Instr) → Shape

-- the table
abbrev pub shape_of : Opcode → Shape
shape_of op.Unreachable = Plain instr.Unreachable
shape_of op.Nop = Plain instr.Nop
shape_of op.Block = WithBlock instr.Block
shape_of op.Loop = WithBlock instr.Loop
shape_of op.If = WithBlock instr.If
shape_of op.Else = Plain instr.Else
shape_of op.End = Plain instr.End
shape_of op.Br = WithIndex instr.Br
shape_of op.BrIf = WithIndex instr.BrIf
shape_of op.BrTable = WithLabels (λ labels default. instr.BrTable default labels)
shape_of op.Return = Plain instr.Return
shape_of op.Call = WithIndex instr.Call
shape_of op.CallIndirect = WithTypeAndZero instr.CallIndirect
shape_of op.Drop = Plain instr.Drop
shape_of op.Select = Plain instr.Select
shape_of op.LocalGet = WithIndex instr.LocalGet
shape_of op.LocalSet = WithIndex instr.LocalSet
shape_of op.LocalTee = WithIndex instr.LocalTee
shape_of op.GlobalGet = WithIndex instr.GlobalGet
shape_of op.GlobalSet = WithIndex instr.GlobalSet
shape_of op.I32Load = WithMemory instr.I32Load
shape_of op.I64Load = WithMemory instr.I64Load
shape_of op.I32Load8S = WithMemory instr.I32Load8S
shape_of op.I32Load8U = WithMemory instr.I32Load8U
shape_of op.I32Load16S = WithMemory instr.I32Load16S
shape_of op.I32Load16U = WithMemory instr.I32Load16U
shape_of op.I64Load8S = WithMemory instr.I64Load8S
shape_of op.I64Load8U = WithMemory instr.I64Load8U
shape_of op.I64Load16S = WithMemory instr.I64Load16S
shape_of op.I64Load16U = WithMemory instr.I64Load16U
shape_of op.I64Load32S = WithMemory instr.I64Load32S
shape_of op.I64Load32U = WithMemory instr.I64Load32U
shape_of op.I32Store = WithMemory instr.I32Store
shape_of op.I64Store = WithMemory instr.I64Store
shape_of op.I32Store8 = WithMemory instr.I32Store8
shape_of op.I32Store16 = WithMemory instr.I32Store16
shape_of op.I64Store8 = WithMemory instr.I64Store8
shape_of op.I64Store16 = WithMemory instr.I64Store16
shape_of op.I64Store32 = WithMemory instr.I64Store32
shape_of op.MemorySize = WithZero instr.MemorySize
shape_of op.MemoryGrow = WithZero instr.MemoryGrow
shape_of op.I32Const = WithWord instr.I32Const
shape_of op.I64Const = WithLong instr.I64Const
shape_of op.I32Eqz = Plain instr.I32Eqz
shape_of op.I32Eq = Plain instr.I32Eq
shape_of op.I32Ne = Plain instr.I32Ne
shape_of op.I32LtS = Plain instr.I32LtS
shape_of op.I32LtU = Plain instr.I32LtU
shape_of op.I32GtS = Plain instr.I32GtS
shape_of op.I32GtU = Plain instr.I32GtU
shape_of op.I32LeS = Plain instr.I32LeS
shape_of op.I32LeU = Plain instr.I32LeU
shape_of op.I32GeS = Plain instr.I32GeS
shape_of op.I32GeU = Plain instr.I32GeU
shape_of op.I64Eqz = Plain instr.I64Eqz
shape_of op.I64Eq = Plain instr.I64Eq
shape_of op.I64Ne = Plain instr.I64Ne
shape_of op.I64LtS = Plain instr.I64LtS
shape_of op.I64LtU = Plain instr.I64LtU
shape_of op.I64GtS = Plain instr.I64GtS
shape_of op.I64GtU = Plain instr.I64GtU
shape_of op.I64LeS = Plain instr.I64LeS
shape_of op.I64LeU = Plain instr.I64LeU
shape_of op.I64GeS = Plain instr.I64GeS
shape_of op.I64GeU = Plain instr.I64GeU
shape_of op.I32Clz = Plain instr.I32Clz
shape_of op.I32Ctz = Plain instr.I32Ctz
shape_of op.I32Popcnt = Plain instr.I32Popcnt
shape_of op.I32Add = Plain instr.I32Add
shape_of op.I32Sub = Plain instr.I32Sub
shape_of op.I32Mul = Plain instr.I32Mul
shape_of op.I32DivS = Plain instr.I32DivS
shape_of op.I32DivU = Plain instr.I32DivU
shape_of op.I32RemS = Plain instr.I32RemS
shape_of op.I32RemU = Plain instr.I32RemU
shape_of op.I32And = Plain instr.I32And
shape_of op.I32Or = Plain instr.I32Or
shape_of op.I32Xor = Plain instr.I32Xor
shape_of op.I32Shl = Plain instr.I32Shl
shape_of op.I32ShrS = Plain instr.I32ShrS
shape_of op.I32ShrU = Plain instr.I32ShrU
shape_of op.I32Rotl = Plain instr.I32Rotl
shape_of op.I32Rotr = Plain instr.I32Rotr
shape_of op.I64Clz = Plain instr.I64Clz
shape_of op.I64Ctz = Plain instr.I64Ctz
shape_of op.I64Popcnt = Plain instr.I64Popcnt
shape_of op.I64Add = Plain instr.I64Add
shape_of op.I64Sub = Plain instr.I64Sub
shape_of op.I64Mul = Plain instr.I64Mul
shape_of op.I64DivS = Plain instr.I64DivS
shape_of op.I64DivU = Plain instr.I64DivU
shape_of op.I64RemS = Plain instr.I64RemS
shape_of op.I64RemU = Plain instr.I64RemU
shape_of op.I64And = Plain instr.I64And
shape_of op.I64Or = Plain instr.I64Or
shape_of op.I64Xor = Plain instr.I64Xor
shape_of op.I64Shl = Plain instr.I64Shl
shape_of op.I64ShrS = Plain instr.I64ShrS
shape_of op.I64ShrU = Plain instr.I64ShrU
shape_of op.I64Rotl = Plain instr.I64Rotl
shape_of op.I64Rotr = Plain instr.I64Rotr
shape_of op.I32WrapI64 = Plain instr.I32WrapI64
shape_of op.I64ExtendI32S = Plain instr.I64ExtendI32S
shape_of op.I64ExtendI32U = Plain instr.I64ExtendI32U
shape_of op.I32Extend8S = Plain instr.I32Extend8S
shape_of op.I32Extend16S = Plain instr.I32Extend16S
shape_of op.I64Extend8S = Plain instr.I64Extend8S
shape_of op.I64Extend16S = Plain instr.I64Extend16S
shape_of op.I64Extend32S = Plain instr.I64Extend32S
shape_of op.Prefix = WithNumber prefixed_instr

-- the opcode of an instruction
abbrev pub opcode_of : Instr → Opcode
opcode_of instr.Unreachable = op.Unreachable
opcode_of instr.Nop = op.Nop
opcode_of (instr.Block x) = op.Block
opcode_of (instr.Loop x) = op.Loop
opcode_of (instr.If x) = op.If
opcode_of instr.Else = op.Else
opcode_of instr.End = op.End
opcode_of (instr.Br x) = op.Br
opcode_of (instr.BrIf x) = op.BrIf
opcode_of (instr.BrTable default labels) = op.BrTable
opcode_of instr.Return = op.Return
opcode_of (instr.Call x) = op.Call
opcode_of (instr.CallIndirect x) = op.CallIndirect
opcode_of instr.Drop = op.Drop
opcode_of instr.Select = op.Select
opcode_of (instr.LocalGet x) = op.LocalGet
opcode_of (instr.LocalSet x) = op.LocalSet
opcode_of (instr.LocalTee x) = op.LocalTee
opcode_of (instr.GlobalGet x) = op.GlobalGet
opcode_of (instr.GlobalSet x) = op.GlobalSet
opcode_of (instr.I32Load x) = op.I32Load
opcode_of (instr.I64Load x) = op.I64Load
opcode_of (instr.I32Load8S x) = op.I32Load8S
opcode_of (instr.I32Load8U x) = op.I32Load8U
opcode_of (instr.I32Load16S x) = op.I32Load16S
opcode_of (instr.I32Load16U x) = op.I32Load16U
opcode_of (instr.I64Load8S x) = op.I64Load8S
opcode_of (instr.I64Load8U x) = op.I64Load8U
opcode_of (instr.I64Load16S x) = op.I64Load16S
opcode_of (instr.I64Load16U x) = op.I64Load16U
opcode_of (instr.I64Load32S x) = op.I64Load32S
opcode_of (instr.I64Load32U x) = op.I64Load32U
opcode_of (instr.I32Store x) = op.I32Store
opcode_of (instr.I64Store x) = op.I64Store
opcode_of (instr.I32Store8 x) = op.I32Store8
opcode_of (instr.I32Store16 x) = op.I32Store16
opcode_of (instr.I64Store8 x) = op.I64Store8
opcode_of (instr.I64Store16 x) = op.I64Store16
opcode_of (instr.I64Store32 x) = op.I64Store32
opcode_of instr.MemorySize = op.MemorySize
opcode_of instr.MemoryGrow = op.MemoryGrow
opcode_of (instr.I32Const x) = op.I32Const
opcode_of (instr.I64Const x) = op.I64Const
opcode_of instr.I32Eqz = op.I32Eqz
opcode_of instr.I32Eq = op.I32Eq
opcode_of instr.I32Ne = op.I32Ne
opcode_of instr.I32LtS = op.I32LtS
opcode_of instr.I32LtU = op.I32LtU
opcode_of instr.I32GtS = op.I32GtS
opcode_of instr.I32GtU = op.I32GtU
opcode_of instr.I32LeS = op.I32LeS
opcode_of instr.I32LeU = op.I32LeU
opcode_of instr.I32GeS = op.I32GeS
opcode_of instr.I32GeU = op.I32GeU
opcode_of instr.I64Eqz = op.I64Eqz
opcode_of instr.I64Eq = op.I64Eq
opcode_of instr.I64Ne = op.I64Ne
opcode_of instr.I64LtS = op.I64LtS
opcode_of instr.I64LtU = op.I64LtU
opcode_of instr.I64GtS = op.I64GtS
opcode_of instr.I64GtU = op.I64GtU
opcode_of instr.I64LeS = op.I64LeS
opcode_of instr.I64LeU = op.I64LeU
opcode_of instr.I64GeS = op.I64GeS
opcode_of instr.I64GeU = op.I64GeU
opcode_of instr.I32Clz = op.I32Clz
opcode_of instr.I32Ctz = op.I32Ctz
opcode_of instr.I32Popcnt = op.I32Popcnt
opcode_of instr.I32Add = op.I32Add
opcode_of instr.I32Sub = op.I32Sub
opcode_of instr.I32Mul = op.I32Mul
opcode_of instr.I32DivS = op.I32DivS
opcode_of instr.I32DivU = op.I32DivU
opcode_of instr.I32RemS = op.I32RemS
opcode_of instr.I32RemU = op.I32RemU
opcode_of instr.I32And = op.I32And
opcode_of instr.I32Or = op.I32Or
opcode_of instr.I32Xor = op.I32Xor
opcode_of instr.I32Shl = op.I32Shl
opcode_of instr.I32ShrS = op.I32ShrS
opcode_of instr.I32ShrU = op.I32ShrU
opcode_of instr.I32Rotl = op.I32Rotl
opcode_of instr.I32Rotr = op.I32Rotr
opcode_of instr.I64Clz = op.I64Clz
opcode_of instr.I64Ctz = op.I64Ctz
opcode_of instr.I64Popcnt = op.I64Popcnt
opcode_of instr.I64Add = op.I64Add
opcode_of instr.I64Sub = op.I64Sub
opcode_of instr.I64Mul = op.I64Mul
opcode_of instr.I64DivS = op.I64DivS
opcode_of instr.I64DivU = op.I64DivU
opcode_of instr.I64RemS = op.I64RemS
opcode_of instr.I64RemU = op.I64RemU
opcode_of instr.I64And = op.I64And
opcode_of instr.I64Or = op.I64Or
opcode_of instr.I64Xor = op.I64Xor
opcode_of instr.I64Shl = op.I64Shl
opcode_of instr.I64ShrS = op.I64ShrS
opcode_of instr.I64ShrU = op.I64ShrU
opcode_of instr.I64Rotl = op.I64Rotl
opcode_of instr.I64Rotr = op.I64Rotr
opcode_of instr.I32WrapI64 = op.I32WrapI64
opcode_of instr.I64ExtendI32S = op.I64ExtendI32S
opcode_of instr.I64ExtendI32U = op.I64ExtendI32U
opcode_of instr.I32Extend8S = op.I32Extend8S
opcode_of instr.I32Extend16S = op.I32Extend16S
opcode_of instr.I64Extend8S = op.I64Extend8S
opcode_of instr.I64Extend16S = op.I64Extend16S
opcode_of instr.I64Extend32S = op.I64Extend32S
opcode_of instr.MemoryCopy = op.Prefix
opcode_of instr.MemoryFill = op.Prefix

-- An instruction that a row makes has the row's opcode.
abbrev pub MakesOpcode : Opcode → Shape → Type 0
MakesOpcode o (Plain i) = opcode_of i ≡ o
MakesOpcode o (WithBlock f) = (t : BlockType) → opcode_of (f t) ≡ o
MakesOpcode o (WithIndex f) = (n : ℕ) → opcode_of (f n) ≡ o
MakesOpcode o (WithLabels f) = (labels : List ℕ) (n : ℕ) → opcode_of (f labels n) ≡ o
MakesOpcode o (WithTypeAndZero f) = (n : ℕ) → opcode_of (f n) ≡ o
MakesOpcode o (WithMemory f) = (a : MemoryArgument) → opcode_of (f a) ≡ o
MakesOpcode o (WithZero i) = opcode_of i ≡ o
MakesOpcode o (WithWord f) = (v : ℤ) → opcode_of (f v) ≡ o
MakesOpcode o (WithLong f) = (v : ℤ) → opcode_of (f v) ≡ o
MakesOpcode o (WithNumber f) = (x : Prefixed) → opcode_of (f x) ≡ o

-- The entries from a byte on stand at the bytes of their opcodes.
abbrev pub stand_from : ℕ → List OpcodeByte → Bool
stand_from n [] = true
stand_from n (Known o ∷ es) = if nat_eq (byte_of o) n then stand_from (suc n) es else false
stand_from n (Float ∷ es) = stand_from (suc n) es
stand_from n (Unknown ∷ es) = stand_from (suc n) es
