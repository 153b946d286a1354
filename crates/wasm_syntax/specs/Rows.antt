-- The table of opcodes as typing reads it (WebAssembly Core section 3.3, of 1.0, and of 2.0 for sign extension, memory.copy
-- and memory.fill): in which row an instruction
-- stands. The operators are told apart by their types alone.
use Rattle.std.specs.Prelude.{ℕ, List, []}
use Rattle.wasm_syntax.specs.declared.types.ValueType.TheVariants.{I32, I64}
use Rattle.wasm_syntax.specs.declared.instr.Instr.{Instr}
use Rattle.wasm_syntax.specs.declared.instr.Instr.TheVariants as instr
use Rattle.wasm_syntax.specs.declared.row.Row.{Row}
use Rattle.wasm_syntax.specs.declared.row.Row.TheVariants as row

-- the table
abbrev pub row_of : Instr → Row
row_of instr.Unreachable = row.Unreachable
row_of instr.Nop = row.Nop
row_of (instr.Block t) = row.Block t
row_of (instr.Loop t) = row.Loop t
row_of (instr.If t) = row.If t
row_of instr.Else = row.Else
row_of instr.End = row.End
row_of (instr.Br x) = row.Br x
row_of (instr.BrIf x) = row.BrIf x
row_of (instr.BrTable default labels) = row.BrTable default
row_of instr.Return = row.Return
row_of (instr.Call x) = row.Call x
row_of (instr.CallIndirect x) = row.CallIndirect x
row_of instr.Drop = row.Drop
row_of instr.Select = row.Select
row_of (instr.LocalGet x) = row.LocalGet x
row_of (instr.LocalSet x) = row.LocalSet x
row_of (instr.LocalTee x) = row.LocalTee x
row_of (instr.GlobalGet x) = row.GlobalGet x
row_of (instr.GlobalSet x) = row.GlobalSet x
row_of (instr.I32Load a) = row.Load I32 2 a.align
row_of (instr.I64Load a) = row.Load I64 3 a.align
row_of (instr.I32Load8S a) = row.Load I32 0 a.align
row_of (instr.I32Load8U a) = row.Load I32 0 a.align
row_of (instr.I32Load16S a) = row.Load I32 1 a.align
row_of (instr.I32Load16U a) = row.Load I32 1 a.align
row_of (instr.I64Load8S a) = row.Load I64 0 a.align
row_of (instr.I64Load8U a) = row.Load I64 0 a.align
row_of (instr.I64Load16S a) = row.Load I64 1 a.align
row_of (instr.I64Load16U a) = row.Load I64 1 a.align
row_of (instr.I64Load32S a) = row.Load I64 2 a.align
row_of (instr.I64Load32U a) = row.Load I64 2 a.align
row_of (instr.I32Store a) = row.Store I32 2 a.align
row_of (instr.I64Store a) = row.Store I64 3 a.align
row_of (instr.I32Store8 a) = row.Store I32 0 a.align
row_of (instr.I32Store16 a) = row.Store I32 1 a.align
row_of (instr.I64Store8 a) = row.Store I64 0 a.align
row_of (instr.I64Store16 a) = row.Store I64 1 a.align
row_of (instr.I64Store32 a) = row.Store I64 2 a.align
row_of instr.MemorySize = row.MemorySize
row_of instr.MemoryGrow = row.MemoryGrow
row_of (instr.I32Const v) = row.Const I32
row_of (instr.I64Const v) = row.Const I64
row_of instr.I32Eqz = row.Unary I32 I32
row_of instr.I32Eq = row.Binary I32 I32
row_of instr.I32Ne = row.Binary I32 I32
row_of instr.I32LtS = row.Binary I32 I32
row_of instr.I32LtU = row.Binary I32 I32
row_of instr.I32GtS = row.Binary I32 I32
row_of instr.I32GtU = row.Binary I32 I32
row_of instr.I32LeS = row.Binary I32 I32
row_of instr.I32LeU = row.Binary I32 I32
row_of instr.I32GeS = row.Binary I32 I32
row_of instr.I32GeU = row.Binary I32 I32
row_of instr.I64Eqz = row.Unary I64 I32
row_of instr.I64Eq = row.Binary I64 I32
row_of instr.I64Ne = row.Binary I64 I32
row_of instr.I64LtS = row.Binary I64 I32
row_of instr.I64LtU = row.Binary I64 I32
row_of instr.I64GtS = row.Binary I64 I32
row_of instr.I64GtU = row.Binary I64 I32
row_of instr.I64LeS = row.Binary I64 I32
row_of instr.I64LeU = row.Binary I64 I32
row_of instr.I64GeS = row.Binary I64 I32
row_of instr.I64GeU = row.Binary I64 I32
row_of instr.I32Clz = row.Unary I32 I32
row_of instr.I32Ctz = row.Unary I32 I32
row_of instr.I32Popcnt = row.Unary I32 I32
row_of instr.I32Add = row.Binary I32 I32
row_of instr.I32Sub = row.Binary I32 I32
row_of instr.I32Mul = row.Binary I32 I32
row_of instr.I32DivS = row.Binary I32 I32
row_of instr.I32DivU = row.Binary I32 I32
row_of instr.I32RemS = row.Binary I32 I32
row_of instr.I32RemU = row.Binary I32 I32
row_of instr.I32And = row.Binary I32 I32
row_of instr.I32Or = row.Binary I32 I32
row_of instr.I32Xor = row.Binary I32 I32
row_of instr.I32Shl = row.Binary I32 I32
row_of instr.I32ShrS = row.Binary I32 I32
row_of instr.I32ShrU = row.Binary I32 I32
row_of instr.I32Rotl = row.Binary I32 I32
row_of instr.I32Rotr = row.Binary I32 I32
row_of instr.I64Clz = row.Unary I64 I64
row_of instr.I64Ctz = row.Unary I64 I64
row_of instr.I64Popcnt = row.Unary I64 I64
row_of instr.I64Add = row.Binary I64 I64
row_of instr.I64Sub = row.Binary I64 I64
row_of instr.I64Mul = row.Binary I64 I64
row_of instr.I64DivS = row.Binary I64 I64
row_of instr.I64DivU = row.Binary I64 I64
row_of instr.I64RemS = row.Binary I64 I64
row_of instr.I64RemU = row.Binary I64 I64
row_of instr.I64And = row.Binary I64 I64
row_of instr.I64Or = row.Binary I64 I64
row_of instr.I64Xor = row.Binary I64 I64
row_of instr.I64Shl = row.Binary I64 I64
row_of instr.I64ShrS = row.Binary I64 I64
row_of instr.I64ShrU = row.Binary I64 I64
row_of instr.I64Rotl = row.Binary I64 I64
row_of instr.I64Rotr = row.Binary I64 I64
row_of instr.I32WrapI64 = row.Unary I64 I32
row_of instr.I64ExtendI32S = row.Unary I32 I64
row_of instr.I64ExtendI32U = row.Unary I32 I64
row_of instr.I32Extend8S = row.Unary I32 I32
row_of instr.I32Extend16S = row.Unary I32 I32
row_of instr.I64Extend8S = row.Unary I64 I64
row_of instr.I64Extend16S = row.Unary I64 I64
row_of instr.I64Extend32S = row.Unary I64 I64
row_of instr.MemoryCopy = row.BulkMemory
row_of instr.MemoryFill = row.BulkMemory

-- the labels of a `br_table` but its last; none of every other
abbrev pub labels_of : Instr → List ℕ
labels_of (instr.BrTable default labels) = labels
labels_of i = []
