-- Worked examples of calls, from the bytes of a module to how they go.
use Rattle.std.specs.Prelude.{ℕ, pos, true, List, [], ◌∷◌, ◌++◌, Some, codes as bytes_of}
use Rattle.wasm_syntax.specs.declared.types.ValueType.TheVariants.{I32}
use Rattle.wasm_syntax.specs.declared.instr.Instr.{Instr}
use Rattle.wasm_syntax.specs.declared.instr.Instr.TheVariants as instr
use Rattle.wasm_syntax.specs.declared.module.Export.{Export}
use Rattle.wasm_syntax.specs.declared.module.ExportKind.TheVariants as kinds
use Rattle.wasm_syntax.specs.declared.module.Module.{Module}
use Rattle.wasm_syntax.specs.Grammar.{header, empty_module}
use Rattle.wasm_syntax.specs.ReductionExamples.{gives_nothing, gives_word, sum_module}

-- ---- exports

abbrev pub function_export : List ℕ → ℕ → Export
function_export name x = record { name = name; kind = kinds.Function x }

abbrev pub memory_export : List ℕ → Export
memory_export name = record { name = name; kind = kinds.Memory 0 }

abbrev pub some_exports : List Export
some_exports = memory_export (bytes_of "m") ∷ function_export (bytes_of "f") 3 ∷ function_export (bytes_of "ff") 1 ∷ []

-- ---- a start function, which puts 5 into a global that is 1 at first, and a function that gives the global

abbrev pub set_body : List Instr
set_body = instr.I32Const (pos 5) ∷ instr.GlobalSet 0 ∷ instr.End ∷ []

abbrev pub starting : List Instr → Module
starting body = record empty_module {
  types = gives_nothing ∷ gives_word ∷ [];
  functions = 0 ∷ 1 ∷ [];
  globals = record { of = record { value = I32; is_mutable = true }; initial = instr.I32Const (pos 1) ∷ instr.End ∷ [] } ∷ [];
  start = Some 0;
  codes = record { locals = []; body = body } ∷ record { locals = []; body = instr.GlobalGet 0 ∷ instr.End ∷ [] } ∷ [];
}

-- ---- the summing function, exported as `f`

abbrev pub sums : Module
sums = record sum_module { exports = function_export (bytes_of "f") 0 ∷ [] }

abbrev pub type_section : List ℕ
type_section = 0x01 ∷ 0x06 ∷ 0x01 ∷ 0x60 ∷ 0x01 ∷ 0x7f ∷ 0x01 ∷ 0x7f ∷ []

abbrev pub function_section : List ℕ
function_section = 0x03 ∷ 0x02 ∷ 0x01 ∷ 0x00 ∷ []

abbrev pub export_section : List ℕ
export_section = 0x07 ∷ 0x05 ∷ 0x01 ∷ 0x01 ∷ 0x66 ∷ 0x00 ∷ 0x00 ∷ []

-- block, loop, local.get 0, i32.eqz, br_if 1; the sum in local 1; one less in local 0; br 0; and behind both the sum
abbrev pub code_section : List ℕ
code_section =
    0x0a ∷ 0x23 ∷ 0x01 ∷ 0x21 ∷ 0x01 ∷ 0x01 ∷ 0x7f
    ∷ 0x02 ∷ 0x40 ∷ 0x03 ∷ 0x40 ∷ 0x20 ∷ 0x00 ∷ 0x45 ∷ 0x0d ∷ 0x01
    ∷ 0x20 ∷ 0x01 ∷ 0x20 ∷ 0x00 ∷ 0x6a ∷ 0x21 ∷ 0x01
    ∷ 0x20 ∷ 0x00 ∷ 0x41 ∷ 0x01 ∷ 0x6b ∷ 0x21 ∷ 0x00
    ∷ 0x0c ∷ 0x00 ∷ 0x0b ∷ 0x0b
    ∷ 0x20 ∷ 0x01 ∷ 0x0b ∷ []

abbrev pub bytes_of_sums : List ℕ
bytes_of_sums = header ++ type_section ++ function_section ++ export_section ++ code_section
