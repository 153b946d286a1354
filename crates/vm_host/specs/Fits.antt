-- Whether a module is one of a filter, on a host that allows its memory so many pages.
use Rattle.std.specs.Prelude.{ℕ, Bool, true, false, not, ◌&&◌, ◌||◌, if◌then◌else◌, List, [], ◌∷◌, Option, None, Some, Result, Ok, Err, is_some, slice_get, bytes_eq, codes}
use Rattle.std.specs.List.{list_any}
use Rattle.std.specs.Option.{option_map, option_or, option_and_then}
use Rattle.wasm_syntax.specs.declared.types.ValueType.{ValueType}
use Rattle.wasm_syntax.specs.declared.types.ValueType.TheVariants.{I32}
use Rattle.wasm_syntax.specs.declared.types.FunctionType.{FunctionType}
use Rattle.wasm_syntax.specs.declared.module.Export.{Export}
use Rattle.wasm_syntax.specs.declared.module.ExportKind.{ExportKind}
use Rattle.wasm_syntax.specs.declared.module.ExportKind.TheVariants as kinds
use Rattle.wasm_syntax.specs.declared.module.Module.{Module}
use Rattle.wasm_syntax.specs.Validity.{functions_of}
use Rattle.wasm_store.specs.Linking.{link_fault}
use Rattle.abi_links.specs.Judging.{types_in, has_type, judged_of}
use Rattle.vm_host.specs.declared.fitting.FitEnd.{FitEnd}
use Rattle.vm_host.specs.declared.fitting.FitEnd.TheVariants as ends
use Rattle.vm_host.specs.declared.roles.Role.{Role}
use Rattle.vm_host.specs.Roles.{role_row, gives_number, role_named}

-- ---- exports (WebAssembly Core 1.0 section 2.5.10)

abbrev pub function_in : ExportKind → Option ℕ
function_in (kinds.Function x) = Some x
function_in (kinds.Table x) = None
function_in (kinds.Memory x) = None
function_in (kinds.Global x) = None

-- the function that is exported under a name (in a valid module no two exports have one name)
abbrev pub exported : List ℕ → List Export → Option ℕ
exported name [] = None
exported name (e ∷ exports) = option_or (if bytes_eq e.name name then function_in e.kind else None) (exported name exports)

-- ---- the types of exports

-- the type of the function of an index
unfoldable pub type_in : Module → ℕ → Option FunctionType
type_in m x = option_and_then (λ k. slice_get m.types k) (slice_get (functions_of m) x)

abbrev pub results_for : Bool → List ValueType
results_for true = I32 ∷ []
results_for false = []

abbrev pub role_results : Role → List ValueType
role_results r = results_for (gives_number r)

abbrev pub fits_type : Role → Option FunctionType → Bool
fits_type r None = false
fits_type r (Some t) = has_type (types_in (role_row r)) (role_results r) t

abbrev pub fits_function : Module → Role → Option ℕ → Bool
fits_function m r None = false
fits_function m r (Some x) = fits_type r (type_in m x)

abbrev pub misfits_role : Module → Option ℕ → Option Role → Bool
misfits_role m f None = false
misfits_role m f (Some r) = not (fits_function m r f)

-- it has a name of the table, and is no function of the type there
unfoldable pub is_misfit : Module → Export → Bool
is_misfit m e = misfits_role m (function_in e.kind) (role_named e.name)

-- a function that says for which interface the module was made
unfoldable pub is_marker : Export → Bool
is_marker e = is_some (function_in e.kind) && (bytes_eq e.name (codes "proxy_abi_version_0_2_1") || bytes_eq e.name (codes "proxy_abi_version_0_2_0"))

-- ---- THE FIRST FAULT: what stands against linking, then that it says for no interface that it was made, then an export of another type
unfoldable pub no_marker : List Export → Option FitEnd
no_marker exports = if list_any is_marker exports then None else Some ends.NoAbi

unfoldable pub a_misfit : Module → Option FitEnd
a_misfit m = if list_any (is_misfit m) m.exports then Some ends.CallbackType else None

unfoldable pub unlinked : Module → (pages : ℕ) → Option FitEnd
unlinked m pages = option_map ends.Unlinked (link_fault judged_of m pages)

abbrev pub fit_fault : Module → (pages : ℕ) → Option FitEnd
fit_fault m pages = option_or (unlinked m pages) (option_or (no_marker m.exports) (a_misfit m))

abbrev pub fitting : Option FitEnd → Result (Unit {0}) FitEnd
fitting None = Ok tt
fitting (Some e) = Err e
