-- Worked examples of typing and of valid modules.
use Rattle.std.specs.Prelude.{ℕ, pos, true, false, List, [], ◌∷◌, Some, None}
use Rattle.wasm_syntax.specs.declared.types.ValueType.TheVariants.{I32, I64}
use Rattle.wasm_syntax.specs.declared.types.FunctionType.{FunctionType}
use Rattle.wasm_syntax.specs.declared.types.Limits.{Limits}
use Rattle.wasm_syntax.specs.declared.types.GlobalType.{GlobalType}
use Rattle.wasm_syntax.specs.declared.instr.Instr.{Instr}
use Rattle.wasm_syntax.specs.declared.instr.Instr.TheVariants as instr
use Rattle.wasm_syntax.specs.declared.instr.BlockType.TheVariants as block_type
use Rattle.wasm_syntax.specs.declared.module.ImportKind.TheVariants as imported
use Rattle.wasm_syntax.specs.declared.module.ExportKind.TheVariants as exported
use Rattle.wasm_syntax.specs.declared.module.Import.{Import}
use Rattle.wasm_syntax.specs.declared.module.Code.{Code}
use Rattle.wasm_syntax.specs.declared.module.Module.{Module}
use Rattle.wasm_syntax.specs.Grammar.{empty_module}
use Rattle.wasm_syntax.specs.Typing.{Context}

-- ---- bodies

-- of a function that takes and gives nothing, in a module with nothing else in it
abbrev pub nowhere : Context
nowhere = record { types = []; functions = []; tables = 0; memories = 0; globals = []; locals = []; labels = []; results = [] }

-- the same with a memory
abbrev pub with_memory : Context
with_memory = record nowhere { memories = 1 }

-- behind `unreachable` two operands are there
abbrev pub unreachable_add : List Instr
unreachable_add = instr.Unreachable ∷ instr.I32Add ∷ instr.Drop ∷ instr.End ∷ []

abbrev pub branch_in_loop : List Instr
branch_in_loop = instr.Loop (block_type.Value I32) ∷ instr.Br 0 ∷ instr.End ∷ instr.Drop ∷ instr.End ∷ []

abbrev pub branch_in_block : List Instr
branch_in_block = instr.Block (block_type.Value I32) ∷ instr.Br 0 ∷ instr.End ∷ instr.Drop ∷ instr.End ∷ []

abbrev pub branch_with_result : List Instr
branch_with_result = instr.Block (block_type.Value I32) ∷ instr.I32Const (pos 7) ∷ instr.Br 0 ∷ instr.End ∷ instr.Drop ∷ instr.End ∷ []

-- the results are of one type
abbrev pub both_branches : List Instr
both_branches = instr.I32Const (pos 1) ∷ instr.If (block_type.Value I64) ∷ instr.I64Const (pos 2) ∷ instr.Else ∷ instr.I64Const (pos 3) ∷ instr.End ∷ instr.Drop ∷ instr.End ∷ []

abbrev pub one_branch : List Instr
one_branch = instr.I32Const (pos 1) ∷ instr.If (block_type.Value I32) ∷ instr.I32Const (pos 1) ∷ instr.End ∷ instr.Drop ∷ instr.End ∷ []

-- what is dropped stands below the block
abbrev pub drop_from_below : List Instr
drop_from_below = instr.I32Const (pos 1) ∷ instr.Block block_type.Empty ∷ instr.Drop ∷ instr.End ∷ instr.End ∷ []

-- a load of four bytes with this exponent of its alignment
abbrev pub load_aligned : ℕ → List Instr
load_aligned align = instr.I32Const (pos 0) ∷ instr.I32Load (record { align = align; offset = 0 }) ∷ instr.Drop ∷ instr.End ∷ []

abbrev pub copy_words : List Instr
copy_words = instr.I32Const (pos 0) ∷ instr.I32Const (pos 8) ∷ instr.I32Const (pos 4) ∷ instr.MemoryCopy ∷ instr.End ∷ []

-- the length is of 64 bits
abbrev pub fill_long : List Instr
fill_long = instr.I32Const (pos 0) ∷ instr.I32Const (pos 8) ∷ instr.I64Const (pos 4) ∷ instr.MemoryFill ∷ instr.End ∷ []

-- ---- modules

abbrev pub nothing_to_nothing : FunctionType
nothing_to_nothing = record { parameters = []; results = [] }

abbrev pub one_page : Limits
one_page = record { minimum = 1; maximum = None }

-- a constant is left where the function gives nothing
abbrev pub left_code : Code
left_code = record { locals = []; body = instr.I32Const (pos 0) ∷ instr.End ∷ [] }

abbrev pub left_over : Module
left_over = record empty_module { types = nothing_to_nothing ∷ []; functions = 0 ∷ []; codes = left_code ∷ [] }

abbrev pub two_memories : Module
two_memories = record empty_module { memories = one_page ∷ one_page ∷ [] }

abbrev pub imported_page : Import
imported_page = record { «module» = 0x61 ∷ []; name = 0x62 ∷ []; kind = imported.Memory one_page }

abbrev pub two_imported_memories : Module
two_imported_memories = record empty_module { imports = imported_page ∷ imported_page ∷ [] }

abbrev pub memory_beside_import : Module
memory_beside_import = record empty_module { imports = imported_page ∷ []; memories = one_page ∷ [] }

-- a constant global that is imported
abbrev pub constant_i32 : GlobalType
constant_i32 = record { value = I32; is_mutable = false }

abbrev pub variable_i32 : GlobalType
variable_i32 = record { value = I32; is_mutable = true }

-- it has an entry of each part
abbrev pub full_module : Module
full_module = record {
  types = nothing_to_nothing ∷ record { parameters = I32 ∷ []; results = I32 ∷ [] } ∷ [];
  imports = record { «module» = 0x61 ∷ []; name = 0x66 ∷ []; kind = imported.Function 1 } ∷ record { «module» = 0x61 ∷ []; name = 0x67 ∷ []; kind = imported.Global constant_i32 } ∷ [];
  functions = 0 ∷ [];
  tables = record { minimum = 2; maximum = Some 2 } ∷ [];
  memories = one_page ∷ [];
  globals = record { of = variable_i32; initial = instr.GlobalGet 0 ∷ instr.End ∷ [] } ∷ [];
  exports = record { name = 0x66 ∷ []; kind = exported.Function 1 } ∷ record { name = 0x6d ∷ []; kind = exported.Memory 0 } ∷ [];
  start = Some 1;
  elements = record { table = 0; offset = instr.I32Const (pos 0) ∷ instr.End ∷ []; functions = 1 ∷ 0 ∷ [] } ∷ [];
  -- the function that is imported is called with a constant, and gives what the global is set to
  codes = record { locals = []; body = instr.I32Const (pos 5) ∷ instr.Call 0 ∷ instr.GlobalSet 1 ∷ instr.End ∷ [] } ∷ [];
  segments = record { memory = 0; offset = instr.GlobalGet 0 ∷ instr.End ∷ []; bytes = 0x71 ∷ [] } ∷ [];
}
