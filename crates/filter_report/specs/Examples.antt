-- Worked examples: reports of modules that are written out.
use Rattle.std.specs.Prelude.{◌≡◌, ℕ, List, [], ◌∷◌, ◌++◌, Some, None, true, codes}
use Rattle.wasm_syntax.specs.declared.types.ValueType.{ValueType}
use Rattle.wasm_syntax.specs.declared.types.ValueType.TheVariants.{I32, I64}
use Rattle.wasm_syntax.specs.declared.types.FunctionType.{FunctionType}
use Rattle.wasm_syntax.specs.declared.module.Import.{Import}
use Rattle.wasm_syntax.specs.declared.module.ImportKind.{ImportKind}
use Rattle.wasm_syntax.specs.declared.module.ImportKind.TheVariants as imported
use Rattle.wasm_syntax.specs.declared.module.Export.{Export}
use Rattle.wasm_syntax.specs.declared.module.ExportKind.{ExportKind}
use Rattle.wasm_syntax.specs.declared.module.ExportKind.TheVariants as exported
use Rattle.wasm_syntax.specs.declared.module.Module.{Module}
use Rattle.wasm_syntax.specs.Grammar.{empty_module}
use Rattle.filter_report.specs.Report.{report_of}

abbrev import : (home name : List ℕ) → ImportKind → Import
import home name kind = record { «module» = home; name = name; kind = kind }

abbrev export : List ℕ → ExportKind → Export
export name kind = record { name = name; kind = kind }

abbrev typed : List ValueType → List ValueType → FunctionType
typed parameters results = record { parameters = parameters; results = results }

-- nothing, two numbers to one, a number to nothing, and a number to a number
abbrev types : List FunctionType
types = typed [] [] ∷ typed (I32 ∷ I64 ∷ []) (I64 ∷ []) ∷ typed (I32 ∷ []) [] ∷ typed (I32 ∷ []) (I32 ∷ []) ∷ []

-- one function that takes and gives nothing, under these names
abbrev named : List (List ℕ) → List Export
named [] = []
named (name ∷ names) = export name (exported.Function 0) ∷ named names

abbrev one_function : List (List ℕ) → Module
one_function names = record empty_module { types = types; functions = 0 ∷ []; exports = named names }

-- one that takes a number and gives one, under these names
abbrev numbering : List (List ℕ) → Module
numbering names = record (one_function names) { functions = 3 ∷ [] }

-- one of each kind is imported and exported, the functions of its own come after the imported one, and the names of two callbacks are exported
-- in another order than that of the table: one as a function of its type, and one as a function of another; one more callback is a memory
abbrev all_kinds : Module
all_kinds = record empty_module {
  types = types;
  imports =
      import (codes "e") [] (imported.Function 1) ∷ import [] (codes "\n") (imported.Table (record { minimum = 1; maximum = None }))
      ∷ import (codes "e") (codes "m") (imported.Memory (record { minimum = 0; maximum = Some 1 }))
      ∷ import (codes "e") (codes "g") (imported.Global (record { value = I32; is_mutable = true })) ∷ [];
  functions = 2 ∷ 0 ∷ 3 ∷ [];
  exports =
      export (codes "z") (exported.Memory 0) ∷ export (codes "proxy_on_done") (exported.Function 3)
      ∷ export (codes "proxy_on_tick") (exported.Function 1) ∷ export (codes "proxy_on_log") (exported.Function 2)
      ∷ export (codes "proxy_on_delete") (exported.Memory 0) ∷ export (codes "") (exported.Table 0) ∷ export (codes "a") (exported.Global 0)
      ∷ export (codes "i") (exported.Function 0) ∷ [];
}

-- what each of these modules is told as
pub record ReportExamples : Type 0 where
  pub nothing : report_of empty_module ≡ codes "abi none\n"
  pub marked : report_of (one_function (codes "proxy_abi_version_0_2_1" ∷ []))
      ≡ codes "export 70726f78795f6162695f76657273696f6e5f305f325f31 func - -\nabi 0.2.1\n"
  -- an older marker; and both, of which the newer one counts
  pub older : report_of (one_function (codes "proxy_abi_version_0_2_0" ∷ []))
      ≡ codes "export 70726f78795f6162695f76657273696f6e5f305f325f30 func - -\nabi 0.2.0\n"
  pub both : report_of (one_function (codes "proxy_abi_version_0_2_0" ∷ codes "proxy_abi_version_0_2_1" ∷ []))
      ≡ codes "export 70726f78795f6162695f76657273696f6e5f305f325f30 func - -\nexport 70726f78795f6162695f76657273696f6e5f305f325f31 func - -\nabi 0.2.1\n"
  -- functions of the table that are no callbacks of an event are there too
  pub starts : report_of (one_function (codes "_start" ∷ codes "_initialize" ∷ []))
      ≡ codes "export 5f7374617274 func - -\nexport 5f696e697469616c697a65 func - -\ncallback _initialize\ncallback _start\nabi none\n"
  -- the callbacks of connections come after those of exchanges
  pub connections : report_of (numbering (codes "proxy_on_new_connection" ∷ codes "proxy_on_done" ∷ []))
      ≡ codes "export 70726f78795f6f6e5f6e65775f636f6e6e656374696f6e func i i\nexport 70726f78795f6f6e5f646f6e65 func i i\ncallback proxy_on_done\ncallback proxy_on_new_connection\nabi none\n"
  pub all : report_of all_kinds
      ≡ codes "import 65 - func iI I\nimport - 0a table\nimport 65 6d memory\nimport 65 67 global\n"
      ++ (codes "export 7a memory\nexport 70726f78795f6f6e5f646f6e65 func i i\n"
      ++ (codes "export 70726f78795f6f6e5f7469636b func i -\nexport 70726f78795f6f6e5f6c6f67 func - -\n"
      ++ (codes "export 70726f78795f6f6e5f64656c657465 memory\nexport - table\nexport 61 global\nexport 69 func iI I\n"
      ++ codes "callback proxy_on_tick\ncallback proxy_on_done\nabi none\n")))
