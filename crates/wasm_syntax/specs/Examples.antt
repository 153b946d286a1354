-- Worked examples of the grammar: a module with one function, which does nothing, and a memory.
use Rattle.std.specs.Prelude.{ℕ, pos, List, [], ◌∷◌, ◌++◌, Result, Err, None}
use Rattle.wasm_syntax.specs.declared.instr.Instr.{Instr}
use Rattle.wasm_syntax.specs.declared.instr.Instr.TheVariants as instr
use Rattle.wasm_syntax.specs.declared.module.Module.{Module}
use Rattle.wasm_syntax.specs.Format.{Fault}
use Rattle.wasm_syntax.specs.Grammar.{header, empty_module}

abbrev pub type_section : List ℕ
type_section = 0x01 ∷ 0x04 ∷ 0x01 ∷ 0x60 ∷ 0x00 ∷ 0x00 ∷ []

-- the same, with a count in five bytes
abbrev pub long_type_section : List ℕ
long_type_section = 0x01 ∷ 0x08 ∷ 0x81 ∷ 0x80 ∷ 0x80 ∷ 0x80 ∷ 0x00 ∷ 0x60 ∷ 0x00 ∷ 0x00 ∷ []

abbrev pub function_section : List ℕ
function_section = 0x03 ∷ 0x02 ∷ 0x01 ∷ 0x00 ∷ []

-- one memory of one page
abbrev pub memory_section : List ℕ
memory_section = 0x05 ∷ 0x03 ∷ 0x01 ∷ 0x00 ∷ 0x01 ∷ []

abbrev pub code_section : List ℕ
code_section = 0x0a ∷ 0x04 ∷ 0x01 ∷ 0x02 ∷ 0x00 ∷ 0x0b ∷ []

-- the body is f32.add and end
abbrev pub float_section : List ℕ
float_section = 0x0a ∷ 0x05 ∷ 0x01 ∷ 0x03 ∷ 0x00 ∷ 0x92 ∷ 0x0b ∷ []

-- one function that does nothing but this, and then the `end`
abbrev pub in_body : List Instr → Module
in_body is = record empty_module { types = record { parameters = []; results = [] } ∷ []; functions = 0 ∷ []; codes = record { locals = []; body = is ++ instr.End ∷ [] } ∷ [] }

abbrev pub before_code : List ℕ
before_code = header ++ type_section ++ function_section

-- the size is one more than the content
abbrev pub padded_type_section : List ℕ
padded_type_section = 0x01 ∷ 0x05 ∷ 0x01 ∷ 0x60 ∷ 0x00 ∷ 0x00 ∷ 0x00 ∷ []

-- the byte 0x71 at 0
abbrev pub data_section : List ℕ
data_section = 0x0b ∷ 0x07 ∷ 0x01 ∷ 0x00 ∷ 0x41 ∷ 0x00 ∷ 0x0b ∷ 0x01 ∷ 0x71 ∷ []

abbrev pub bytes_of_example : List ℕ
bytes_of_example = header ++ type_section ++ function_section ++ memory_section ++ code_section ++ data_section

abbrev pub example : Module
example = record empty_module {
  types = record { parameters = []; results = [] } ∷ [];
  functions = 0 ∷ [];
  memories = record { minimum = 1; maximum = None } ∷ [];
  codes = record { locals = []; body = instr.End ∷ [] } ∷ [];
  segments = record { memory = 0; offset = instr.I32Const (pos 0) ∷ instr.End ∷ []; bytes = 0x71 ∷ [] } ∷ [];
}

abbrev pub at_fault : ℕ → ℕ → Result Module Fault
at_fault number left = Err (record { number = number; left = left })
