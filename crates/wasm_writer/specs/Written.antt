-- The bytes that are written for a module: each number in its shortest spelling, no section that says
-- nothing, and neighbouring locals of one type in one group. That these bytes spell the module, and that
-- no fewer do, are laws (written_is_shortest).
use Rattle.std.specs.Prelude.{ℕ, ◌+◌, Bool, true, false, List, [], ◌∷◌, ◌++◌, length, Option, Some, None, is_some}
use Rattle.std.specs.List.{flat_map}
use Rattle.wasm_syntax.specs.declared.types.ValueType.{ValueType}
use Rattle.wasm_syntax.specs.declared.types.ValueType.TheVariants.{I32, I64}
use Rattle.wasm_syntax.specs.declared.types.FunctionType.{FunctionType}
use Rattle.wasm_syntax.specs.declared.types.Limits.{Limits}
use Rattle.wasm_syntax.specs.declared.types.GlobalType.{GlobalType}
use Rattle.wasm_syntax.specs.declared.instr.Instr.{Instr}
use Rattle.wasm_syntax.specs.declared.instr.Instr.TheVariants as instr
use Rattle.wasm_syntax.specs.declared.instr.BlockType.{BlockType}
use Rattle.wasm_syntax.specs.declared.instr.BlockType.TheVariants as block
use Rattle.wasm_syntax.specs.declared.instr.MemoryArgument.{MemoryArgument}
use Rattle.wasm_syntax.specs.declared.kinds.TheConstants.{SECTIONS}
use Rattle.wasm_syntax.specs.declared.kinds.SectionKind.{SectionKind}
use Rattle.wasm_syntax.specs.declared.kinds.SectionKind.TheVariants as kind
use Rattle.wasm_syntax.specs.declared.kinds.ExternalKind.TheVariants as external
use Rattle.wasm_syntax.specs.declared.module.ImportKind.{ImportKind}
use Rattle.wasm_syntax.specs.declared.module.ImportKind.TheVariants as imported
use Rattle.wasm_syntax.specs.declared.module.ExportKind.{ExportKind}
use Rattle.wasm_syntax.specs.declared.module.ExportKind.TheVariants as exported
use Rattle.wasm_syntax.specs.declared.module.Import.{Import}
use Rattle.wasm_syntax.specs.declared.module.Export.{Export}
use Rattle.wasm_syntax.specs.declared.module.Global.{Global}
use Rattle.wasm_syntax.specs.declared.module.Element.{Element}
use Rattle.wasm_syntax.specs.declared.module.Code.{Code}
use Rattle.wasm_syntax.specs.declared.module.Segment.{Segment}
use Rattle.wasm_syntax.specs.declared.module.Module.{Module}
use Rattle.wasm_syntax.specs.Kinds.{id_of, byte_of_kind}
use Rattle.wasm_syntax.specs.declared.opcode.Prefixed.{Prefixed}
use Rattle.wasm_syntax.specs.declared.opcode.Prefixed.TheVariants as prefixed
use Rattle.wasm_syntax.specs.Opcodes.{byte_of, opcode_of, number_of}
use Rattle.wasm_syntax.specs.Numbers.{AreBytes, unsigned_bytes, u32_bytes, s32_bytes, s64_bytes}
use Rattle.wasm_syntax.specs.Grammar.{header, Spells}
use Rattle.wasm_writer.specs.declared.locals.Group.{Group}

-- ---- sizes and vectors

-- A size or a count. Where some bytes spell the whole it is below 2^32, and takes at most five bytes.
abbrev pub size_bytes : ℕ → List ℕ
size_bytes n = unsigned_bytes 9 n

-- a count, and the members
abbrev pub vector_bytes : {A : Type 0} → (A → List ℕ) → List A → List ℕ
vector_bytes bytes xs = size_bytes (length xs) ++ flat_map bytes xs

-- a size, and content of that size: names and data too
abbrev pub sized_bytes : List ℕ → List ℕ
sized_bytes content = size_bytes (length content) ++ content

-- ---- types

abbrev pub value_type_bytes : ValueType → List ℕ
value_type_bytes I32 = 0x7f ∷ []
value_type_bytes I64 = 0x7e ∷ []

abbrev pub block_type_bytes : BlockType → List ℕ
block_type_bytes block.Empty = 0x40 ∷ []
block_type_bytes (block.Value t) = value_type_bytes t

abbrev pub flag_bytes : Bool → List ℕ
flag_bytes false = 0 ∷ []
flag_bytes true = 1 ∷ []

unfoldable pub function_type_bytes : FunctionType → List ℕ
function_type_bytes t = 0x60 ∷ (vector_bytes value_type_bytes t.parameters ++ vector_bytes value_type_bytes t.results)

abbrev pub maximum_bytes : Option ℕ → List ℕ
maximum_bytes None = []
maximum_bytes (Some n) = u32_bytes n

abbrev pub limits_bytes : Limits → List ℕ
limits_bytes l = flag_bytes (is_some l.maximum) ++ (u32_bytes l.minimum ++ maximum_bytes l.maximum)

unfoldable pub table_type_bytes : Limits → List ℕ
table_type_bytes l = 0x70 ∷ limits_bytes l

unfoldable pub memory_type_bytes : Limits → List ℕ
memory_type_bytes l = limits_bytes l

unfoldable pub global_type_bytes : GlobalType → List ℕ
global_type_bytes t = value_type_bytes t.value ++ flag_bytes t.is_mutable

-- ---- instructions

abbrev pub memory_argument_bytes : MemoryArgument → List ℕ
memory_argument_bytes a = u32_bytes a.align ++ u32_bytes a.offset

-- a byte 0 for each memory that is named
abbrev pub reserved_bytes : Prefixed → List ℕ
reserved_bytes prefixed.MemoryCopy = 0 ∷ 0 ∷ []
reserved_bytes prefixed.MemoryFill = 0 ∷ []

-- the number behind the byte 0xFC, and what stands behind it
abbrev pub prefixed_bytes : Prefixed → List ℕ
prefixed_bytes x = u32_bytes (number_of x) ++ reserved_bytes x

-- what stands behind the opcode
abbrev pub operand_bytes : Instr → List ℕ
operand_bytes (instr.Block t) = block_type_bytes t
operand_bytes (instr.Loop t) = block_type_bytes t
operand_bytes (instr.If t) = block_type_bytes t
operand_bytes (instr.Br n) = u32_bytes n
operand_bytes (instr.BrIf n) = u32_bytes n
operand_bytes (instr.BrTable default labels) = vector_bytes u32_bytes labels ++ u32_bytes default
operand_bytes (instr.Call n) = u32_bytes n
operand_bytes (instr.CallIndirect n) = u32_bytes n ++ 0 ∷ []
operand_bytes (instr.LocalGet n) = u32_bytes n
operand_bytes (instr.LocalSet n) = u32_bytes n
operand_bytes (instr.LocalTee n) = u32_bytes n
operand_bytes (instr.GlobalGet n) = u32_bytes n
operand_bytes (instr.GlobalSet n) = u32_bytes n
operand_bytes (instr.I32Load a) = memory_argument_bytes a
operand_bytes (instr.I64Load a) = memory_argument_bytes a
operand_bytes (instr.I32Load8S a) = memory_argument_bytes a
operand_bytes (instr.I32Load8U a) = memory_argument_bytes a
operand_bytes (instr.I32Load16S a) = memory_argument_bytes a
operand_bytes (instr.I32Load16U a) = memory_argument_bytes a
operand_bytes (instr.I64Load8S a) = memory_argument_bytes a
operand_bytes (instr.I64Load8U a) = memory_argument_bytes a
operand_bytes (instr.I64Load16S a) = memory_argument_bytes a
operand_bytes (instr.I64Load16U a) = memory_argument_bytes a
operand_bytes (instr.I64Load32S a) = memory_argument_bytes a
operand_bytes (instr.I64Load32U a) = memory_argument_bytes a
operand_bytes (instr.I32Store a) = memory_argument_bytes a
operand_bytes (instr.I64Store a) = memory_argument_bytes a
operand_bytes (instr.I32Store8 a) = memory_argument_bytes a
operand_bytes (instr.I32Store16 a) = memory_argument_bytes a
operand_bytes (instr.I64Store8 a) = memory_argument_bytes a
operand_bytes (instr.I64Store16 a) = memory_argument_bytes a
operand_bytes (instr.I64Store32 a) = memory_argument_bytes a
operand_bytes instr.MemorySize = 0 ∷ []
operand_bytes instr.MemoryGrow = 0 ∷ []
operand_bytes instr.MemoryCopy = prefixed_bytes prefixed.MemoryCopy
operand_bytes instr.MemoryFill = prefixed_bytes prefixed.MemoryFill
operand_bytes (instr.I32Const v) = s32_bytes v
operand_bytes (instr.I64Const v) = s64_bytes v
operand_bytes i = []

unfoldable pub instruction_bytes : Instr → List ℕ
instruction_bytes i = byte_of (opcode_of i) ∷ operand_bytes i

unfoldable pub expression_bytes : List Instr → List ℕ
expression_bytes body = flat_map instruction_bytes body

-- ---- locals

abbrev pub group : ℕ → ValueType → Group
group n t = record { count = n; of = t }

-- A group of so many locals of a type, and these locals behind it: neighbours of one type are one group.
unfoldable pub groups_from : ℕ → ValueType → List ValueType → List Group
groups_from n t [] = group n t ∷ []
groups_from n I32 (I32 ∷ ts) = groups_from (n + 1) I32 ts
groups_from n I32 (I64 ∷ ts) = group n I32 ∷ groups_from 1 I64 ts
groups_from n I64 (I64 ∷ ts) = groups_from (n + 1) I64 ts
groups_from n I64 (I32 ∷ ts) = group n I64 ∷ groups_from 1 I32 ts

abbrev pub groups_of : List ValueType → List Group
groups_of [] = []
groups_of (t ∷ ts) = groups_from 1 t ts

abbrev pub group_bytes : Group → List ℕ
group_bytes g = size_bytes g.count ++ value_type_bytes g.of

unfoldable pub body_bytes : Code → List ℕ
body_bytes c = vector_bytes group_bytes (groups_of c.locals) ++ expression_bytes c.body

abbrev pub code_bytes : Code → List ℕ
code_bytes c = sized_bytes (body_bytes c)

-- ---- entries

abbrev pub import_kind_bytes : ImportKind → List ℕ
import_kind_bytes (imported.Function n) = byte_of_kind external.Function ∷ u32_bytes n
import_kind_bytes (imported.Table l) = byte_of_kind external.Table ∷ table_type_bytes l
import_kind_bytes (imported.Memory l) = byte_of_kind external.Memory ∷ memory_type_bytes l
import_kind_bytes (imported.Global t) = byte_of_kind external.Global ∷ global_type_bytes t

unfoldable pub import_bytes : Import → List ℕ
import_bytes x = sized_bytes x.«module» ++ (sized_bytes x.name ++ import_kind_bytes x.kind)

abbrev pub export_kind_bytes : ExportKind → List ℕ
export_kind_bytes (exported.Function n) = byte_of_kind external.Function ∷ u32_bytes n
export_kind_bytes (exported.Table n) = byte_of_kind external.Table ∷ u32_bytes n
export_kind_bytes (exported.Memory n) = byte_of_kind external.Memory ∷ u32_bytes n
export_kind_bytes (exported.Global n) = byte_of_kind external.Global ∷ u32_bytes n

unfoldable pub export_bytes : Export → List ℕ
export_bytes x = sized_bytes x.name ++ export_kind_bytes x.kind

unfoldable pub global_bytes : Global → List ℕ
global_bytes x = global_type_bytes x.of ++ expression_bytes x.initial

unfoldable pub element_bytes : Element → List ℕ
element_bytes x = u32_bytes x.table ++ (expression_bytes x.offset ++ vector_bytes u32_bytes x.functions)

unfoldable pub segment_bytes : Segment → List ℕ
segment_bytes x = u32_bytes x.memory ++ (expression_bytes x.offset ++ sized_bytes x.bytes)

-- ---- sections and modules

abbrev pub section_bytes : SectionKind → List ℕ → List ℕ
section_bytes k content = id_of k ∷ sized_bytes content

-- a section of members, and none where there are none
abbrev pub members_bytes : {A : Type 0} → SectionKind → (A → List ℕ) → List A → List ℕ
members_bytes k bytes [] = []
members_bytes k bytes (x ∷ xs) = section_bytes k (vector_bytes bytes (x ∷ xs))

abbrev pub start_bytes : Option ℕ → List ℕ
start_bytes None = []
start_bytes (Some n) = section_bytes kind.Start (u32_bytes n)

-- what the module has for a section
abbrev pub part_bytes : Module → SectionKind → List ℕ
part_bytes m kind.Custom = []
part_bytes m kind.Type = members_bytes kind.Type function_type_bytes m.types
part_bytes m kind.Import = members_bytes kind.Import import_bytes m.imports
part_bytes m kind.Function = members_bytes kind.Function u32_bytes m.functions
part_bytes m kind.Table = members_bytes kind.Table table_type_bytes m.tables
part_bytes m kind.Memory = members_bytes kind.Memory memory_type_bytes m.memories
part_bytes m kind.Global = members_bytes kind.Global global_bytes m.globals
part_bytes m kind.Export = members_bytes kind.Export export_bytes m.exports
part_bytes m kind.Start = start_bytes m.start
part_bytes m kind.Element = members_bytes kind.Element element_bytes m.elements
part_bytes m kind.Code = members_bytes kind.Code code_bytes m.codes
part_bytes m kind.Data = members_bytes kind.Data segment_bytes m.segments

-- THE BYTES THAT ARE WRITTEN for a module: the header, and its sections in the order of their ids.
unfoldable pub module_bytes : Module → List ℕ
module_bytes m = header ++ flat_map (part_bytes m) SECTIONS

-- Some bytes spell the module.
pub record HasSpelling (m : Module) : Type 0 where
  pub bytes : List ℕ
  pub are_bytes : AreBytes bytes
  pub spelled : Spells bytes m
