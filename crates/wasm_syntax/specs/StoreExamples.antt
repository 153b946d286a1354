-- Worked examples of memories and of what modules begin with.
use Rattle.std.specs.Prelude.{ℕ, pos, false, List, [], ◌∷◌, Some, None}
use Rattle.wasm_syntax.specs.declared.types.ValueType.TheVariants.{I32}
use Rattle.wasm_syntax.specs.declared.types.Limits.{Limits}
use Rattle.wasm_syntax.specs.declared.instr.Instr.{Instr}
use Rattle.wasm_syntax.specs.declared.instr.Instr.TheVariants as instr
use Rattle.wasm_syntax.specs.declared.module.Code.{Code}
use Rattle.wasm_syntax.specs.declared.module.Element.{Element}
use Rattle.wasm_syntax.specs.declared.module.Segment.{Segment}
use Rattle.wasm_syntax.specs.declared.module.Module.{Module}
use Rattle.wasm_syntax.specs.Grammar.{empty_module}
use Rattle.wasm_syntax.specs.ValidExamples.{nothing_to_nothing}

abbrev pub at_most : ℕ → Limits
at_most n = record { minimum = 1; maximum = Some n }

abbrev pub no_maximum : Limits
no_maximum = record { minimum = 1; maximum = None }

abbrev pub four_bytes : List ℕ
four_bytes = 1 ∷ 2 ∷ 3 ∷ 4 ∷ []

abbrev pub at_place : ℕ → List Instr
at_place n = instr.I32Const (pos n) ∷ instr.End ∷ []

abbrev pub segment : ℕ → List ℕ → Segment
segment at bytes = record { memory = 0; offset = at_place at; bytes = bytes }

-- the second stands over the end of the first
abbrev pub two_segments : List Segment
two_segments = segment 0 (7 ∷ 8 ∷ 9 ∷ []) ∷ segment 2 (5 ∷ 6 ∷ []) ∷ []

abbrev pub element : ℕ → List ℕ → Element
element at functions = record { table = 0; offset = at_place at; functions = functions }

abbrev pub two_elements : List Element
two_elements = element 1 (0 ∷ 1 ∷ []) ∷ element 1 (2 ∷ []) ∷ []

abbrev pub does_nothing : Code
does_nothing = record { locals = []; body = instr.End ∷ [] }

-- three functions that do nothing, a table of four elements and a global, and no memory
abbrev pub with_table : Module
with_table = record empty_module {
  types = nothing_to_nothing ∷ [];
  functions = 0 ∷ 0 ∷ 0 ∷ [];
  codes = does_nothing ∷ does_nothing ∷ does_nothing ∷ [];
  tables = record { minimum = 4; maximum = None } ∷ [];
  globals = record { of = record { value = I32; is_mutable = false }; initial = at_place 9 } ∷ [];
  elements = two_elements;
}
