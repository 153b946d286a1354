-- What some bytes spell, and what that does: the bytes are read as a module's code is, and the first of what they spell is
-- reduced as code that runs is.
use Rattle.std.specs.Prelude.{ℕ, List, [], ◌∷◌, Ok, Err}
use Rattle.wasm_syntax.specs.declared.types.Value.{Value}
use Rattle.wasm_syntax.specs.declared.types.Value.TheVariants as value
use Rattle.wasm_syntax.specs.declared.instr.Instr.{Instr}
use Rattle.wasm_syntax.specs.Format.{Reading, Passes}
use Rattle.wasm_syntax.specs.Grammar.{expression}
use Rattle.wasm_syntax.specs.Nested.{nothing}
use Rattle.wasm_syntax.specs.Stores.{Stores}
use Rattle.wasm_syntax.specs.Reduction.{Program, code, paid, paid_more, Reduced, goes, stuck, reduce}
use Rattle.wasm_syntax.specs.ReductionPrograms.{nested}

abbrev no_program : Program
no_program = record { types = []; functions = []; most = 1 }

abbrev in_memory : List ℕ → Stores
in_memory bytes = record { memory = bytes; table = []; globals = [] }

abbrev reduced : Reading (List Instr) → Stores → List Value → Reduced
reduced (Ok x) s vs = reduce no_program s [] (code vs (nested x.0))
reduced (Err e) s vs = stuck

-- what these bytes, an expression with its `end`, do to a memory and to operands, the topmost first
abbrev pub does : (bytes memory : List ℕ) → List Value → Reduced
does bytes memory vs = reduced (expression.reads (Passes 0) bytes) (in_memory memory) vs

-- it leaves one value, for a unit
abbrev pub leaves : Value → Reduced
leaves v = goes paid (in_memory []) [] (code (v ∷ []) nothing)

-- it leaves the memory so, for a unit and so many more
abbrev pub writes : (further : ℕ) → (memory : List ℕ) → Reduced
writes further memory = goes (paid_more further) (in_memory memory) [] (code [] nothing)
