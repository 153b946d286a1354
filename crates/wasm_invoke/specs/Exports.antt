-- The function that a module exports under a name (WebAssembly Core 1.0 section 2.5.10).
use Rattle.std.specs.Prelude.{ℕ, List, [], ◌∷◌, Option, None, Some, bytes_eq, if◌then◌else◌}
use Rattle.std.specs.Option.{option_or}
use Rattle.wasm_syntax.specs.declared.module.Export.{Export}
use Rattle.wasm_syntax.specs.declared.module.ExportKind.{ExportKind}
use Rattle.wasm_syntax.specs.declared.module.ExportKind.TheVariants as kinds

abbrev pub function_in : ExportKind → Option ℕ
function_in (kinds.Function x) = Some x
function_in (kinds.Table x) = None
function_in (kinds.Memory x) = None
function_in (kinds.Global x) = None

-- the index of the function, if there is one of that name (in a valid module no two exports have one name)
abbrev pub exported : List ℕ → List Export → Option ℕ
exported name [] = None
exported name (e ∷ exports) =
    option_or (if bytes_eq e.name name then function_in e.kind else None) (exported name exports)
