-- More worked examples of runs: the order of operands and arguments, each kind of instruction, and the bound on values.
use Rattle.std.specs.Prelude.{ℕ, pos, negsuc, List, [], ◌∷◌, ◌++◌, Option, Some, None, slice_get, replicate}
use Rattle.wasm_syntax.specs.declared.types.Value.{Value}
use Rattle.wasm_syntax.specs.declared.types.Value.TheVariants as value
use Rattle.wasm_syntax.specs.declared.types.ValueType.TheVariants.{I32, I64}
use Rattle.wasm_syntax.specs.declared.types.FunctionType.{FunctionType}
use Rattle.wasm_syntax.specs.declared.instr.Instr.{Instr}
use Rattle.wasm_syntax.specs.declared.instr.Instr.TheVariants as instr
use Rattle.wasm_syntax.specs.declared.instr.BlockType.TheVariants as block_type
use Rattle.wasm_syntax.specs.declared.module.ImportKind.TheVariants as imported
use Rattle.wasm_syntax.specs.declared.module.Module.{Module}
use Rattle.wasm_syntax.specs.Nested.{nothing, simple}
use Rattle.wasm_syntax.specs.Grammar.{empty_module}
use Rattle.wasm_syntax.specs.Stores.{Stores}
use Rattle.wasm_syntax.specs.Reduction.{Program, code}
use Rattle.wasm_syntax.specs.ReductionSteps.{calling, Config, config, invoked_config, answered_config, idle_config}
use Rattle.wasm_syntax.specs.ReductionRuns.{Stopped, has_finished, has_asked, run}
use Rattle.wasm_syntax.specs.ReductionPrograms.{program_of, called_config}
use Rattle.wasm_syntax.specs.ReductionExamples.{gives_word}

abbrev pub word : ℕ → Instr
word n = instr.I32Const (pos n)

abbrev pub words_to_word : FunctionType
words_to_word = record { parameters = I32 ∷ I32 ∷ []; results = I32 ∷ [] }

-- ---- the order of arguments: function 1 gives its first argument less its second, function 0 is the host's

abbrev pub pair_module : List Instr → Module
pair_module body = record empty_module {
  types = gives_word ∷ words_to_word ∷ [];
  imports = record { «module» = 0x61 ∷ []; name = 0x66 ∷ []; kind = imported.Function 1 } ∷ [];
  functions = 1 ∷ 0 ∷ [];
  tables = record { minimum = 1; maximum = None } ∷ [];
  elements = record { table = 0; offset = instr.I32Const (pos 0) ∷ instr.End ∷ []; functions = 1 ∷ [] } ∷ [];
  codes = record { locals = []; body = instr.LocalGet 0 ∷ instr.LocalGet 1 ∷ instr.I32Sub ∷ instr.End ∷ [] } ∷ record { locals = []; body = body } ∷ [];
}

abbrev pub run_pair : List Instr → ℕ → List Value → ℕ → Stopped
run_pair body x args n = run (program_of (pair_module body) 1) n (called_config (pair_module body) 1 x args)

abbrev pub calls_pair : List Instr
calls_pair = word 9 ∷ word 4 ∷ instr.Call 1 ∷ instr.End ∷ []

abbrev pub calls_element : List Instr
calls_element = word 9 ∷ word 4 ∷ word 0 ∷ instr.CallIndirect 1 ∷ instr.End ∷ []

abbrev pub asks_pair : List Instr
asks_pair = word 100 ∷ word 9 ∷ word 4 ∷ instr.Call 0 ∷ instr.I32Sub ∷ instr.End ∷ []

-- what the host is asked: the index of its function, and the arguments
abbrev pub asked_of : Stopped → Option (ℕ × List Value)
asked_of (has_asked x args c left) = Some (x, args)
asked_of x = None

-- how a run goes on where the host answers, with so many units more
abbrev pub resumed : Program → Option Value → ℕ → Stopped → Stopped
resumed p v n (has_asked x args c left) = run p n (answered_config v c)
resumed p v n x = x

-- and where a function is called from outside while the host's call waits
abbrev pub called_while : Program → ℕ → List Value → ℕ → Stopped → Stopped
called_while p x args n (has_asked y asked c left) = run p n (invoked_config x (slice_get p.functions x) args c)
called_while p x args n y = y

-- and the host's answer behind that
abbrev pub then_resumed : Program → Option Value → ℕ → Stopped → Stopped
then_resumed p v n (has_finished w c left) = run p n (answered_config v c)
then_resumed p v n x = x

-- ---- one body in a function that gives a word, over a memory of eight bytes and two globals

abbrev pub small : Stores
small = record { memory = 1 ∷ 2 ∷ 3 ∷ 0x84 ∷ 5 ∷ 6 ∷ 7 ∷ 0xff ∷ []; table = []; globals = value.I32 20 ∷ value.I64 30 ∷ [] }

abbrev pub one_module : List Instr → Module
one_module body = record empty_module { types = gives_word ∷ []; functions = 0 ∷ []; codes = record { locals = I32 ∷ I64 ∷ []; body = body } ∷ [] }

abbrev pub run_small : List Instr → ℕ → Stopped
run_small body n = run (program_of (one_module body) 1) n (invoked_config 0 (slice_get (program_of (one_module body) 1).functions 0) [] (idle_config small))

-- it has finished with that word, the stores are these, and no unit is left
abbrev pub gave : ℕ → Stores → Stopped
gave n s = has_finished (Some (value.I32 n)) (idle_config s) 0

abbrev pub select_body : ℕ → List Instr
select_body n = word 7 ∷ word 9 ∷ word n ∷ instr.Select ∷ instr.End ∷ []

-- -8 shifted by 1, with its sign and without
abbrev pub shift_body : Instr → List Instr
shift_body shift = instr.I32Const (negsuc 7) ∷ word 1 ∷ shift ∷ instr.End ∷ []

abbrev pub quotient_body : List Instr
quotient_body = word 17 ∷ word 5 ∷ instr.I32DivS ∷ instr.End ∷ []

-- an `if` without `else`, behind which a word stands
abbrev pub lone_if_body : ℕ → List Instr
lone_if_body n = word n ∷ instr.If block_type.Empty ∷ word 1 ∷ instr.LocalSet 0 ∷ instr.End ∷ instr.LocalGet 0 ∷ instr.End ∷ []

-- a branch drops what stands below the value that it takes
abbrev pub dropping_body : List Instr
dropping_body = instr.Block (block_type.Value I32) ∷ word 1 ∷ word 2 ∷ word 3 ∷ instr.Br 0 ∷ instr.End ∷ instr.End ∷ []

abbrev pub tee_body : List Instr
tee_body = word 5 ∷ instr.LocalTee 0 ∷ instr.LocalGet 0 ∷ instr.I32Add ∷ instr.End ∷ []

abbrev pub globals_body : List Instr
globals_body = instr.GlobalGet 0 ∷ word 1 ∷ instr.I32Add ∷ instr.GlobalSet 0 ∷ instr.GlobalGet 1 ∷ instr.I32WrapI64 ∷ instr.End ∷ []

-- two bytes at 1 + 2, the second of which is 5, with the sign of the first or without
abbrev pub load_body : Instr → List Instr
load_body load = word 1 ∷ load ∷ instr.End ∷ []

-- the low two bytes of a number of 64 bits at 6, the last place where they are inside
abbrev pub store_body : ℕ → List Instr
store_body at = word at ∷ instr.I64Const (pos 0x1234567) ∷ instr.I64Store16 (record { align = 0; offset = 1 }) ∷ word 0 ∷ instr.End ∷ []

-- the memory never grows here
abbrev pub grow_body : List Instr
grow_body = word 0 ∷ instr.MemoryGrow ∷ word 1 ∷ instr.MemoryGrow ∷ instr.Drop ∷ instr.End ∷ []

-- ---- copies, fills and the extension of a sign

-- a memory of 128 bytes, the lower half of ones
abbrev pub wide : Stores
wide = record { memory = replicate 64 1 ++ replicate 64 2; table = []; globals = [] }

abbrev pub run_wide : List Instr → ℕ → Stopped
run_wide body n = run (program_of (one_module body) 1) n (invoked_config 0 (slice_get (program_of (one_module body) 1).functions 0) [] (idle_config wide))

-- a range of so many bytes, and then a word: with the units of the range 4 more are paid
abbrev pub copy_body : (to from count : ℕ) → List Instr
copy_body to from count = word to ∷ word from ∷ word count ∷ instr.MemoryCopy ∷ word 0 ∷ instr.End ∷ []

abbrev pub fill_body : (at v count : ℕ) → List Instr
fill_body at v count = word at ∷ word v ∷ word count ∷ instr.MemoryFill ∷ word 0 ∷ instr.End ∷ []

-- the last byte of a range that was filled
abbrev pub filled_body : List Instr
filled_body = word 0 ∷ word 171 ∷ word 128 ∷ instr.MemoryFill ∷ word 127 ∷ instr.I32Load8U (record { align = 0; offset = 0 }) ∷ instr.End ∷ []

-- it has finished with 0 and no unit left, over a memory with these bytes
abbrev pub left_small : List ℕ → Stopped
left_small bytes = gave 0 (record small { memory = bytes })

abbrev pub left_wide : List ℕ → Stopped
left_wide bytes = gave 0 (record wide { memory = bytes })

abbrev pub extend_body : ℕ → Instr → List Instr
extend_body n extend = word n ∷ extend ∷ instr.End ∷ []

-- of 64 bits, of which the lower 32 are given
abbrev pub long_extend_body : ℕ → Instr → List Instr
long_extend_body n extend = instr.I64Const (pos n) ∷ extend ∷ instr.I64Const (pos 32) ∷ instr.I64ShrU ∷ instr.I32WrapI64 ∷ instr.End ∷ []

-- ---- the bound on values

-- so many values stand in a call, in whose frame there is one local, before this instruction
abbrev pub standing : ℕ → Instr → Config
standing n i = config small (calling (value.I32 0 ∷ []) (code (replicate n (value.I32 1)) (simple i nothing)) ∷ calling [] (code [] nothing) ∷ [])

abbrev pub none : Program
none = record { types = []; functions = []; most = 0 }
