-- THE REPORT of a module: its imports and its exports in their order, the callbacks among these in the order of their table, and the interface for
-- which it was made.
use Rattle.std.specs.Prelude.{ℕ, Bool, List, [], ◌∷◌, ◌++◌, map, Option, None, Some, is_some, slice_get, codes, if◌then◌else◌}
use Rattle.std.specs.List.{flat_map}
use Rattle.hex.specs.Hex.{encode_lower}
use Rattle.wasm_syntax.specs.declared.types.ValueType.{ValueType}
use Rattle.wasm_syntax.specs.declared.types.ValueType.TheVariants.{I32, I64}
use Rattle.wasm_syntax.specs.declared.types.FunctionType.{FunctionType}
use Rattle.wasm_syntax.specs.declared.module.Import.{Import}
use Rattle.wasm_syntax.specs.declared.module.ImportKind.{ImportKind}
use Rattle.wasm_syntax.specs.declared.module.ImportKind.TheVariants as imported
use Rattle.wasm_syntax.specs.declared.module.Export.{Export}
use Rattle.wasm_syntax.specs.declared.module.ExportKind.{ExportKind}
use Rattle.wasm_syntax.specs.declared.module.ExportKind.TheVariants as kinds
use Rattle.wasm_syntax.specs.declared.module.Module.{Module}
use Rattle.vm_host.specs.declared.roles.Role.{Role}
use Rattle.vm_host.specs.Fits.{exported, type_in, fits_function}
use Rattle.vm_host.specs.Roles.{role_name, all_roles}

-- ---- words

-- the bytes of a name in hexadecimal digits of lower case, and `-` where there are none
abbrev pub hex_name : List ℕ → List ℕ
hex_name [] = codes "-"
hex_name (b ∷ bytes) = encode_lower (b ∷ bytes)

-- `i` or `I`
abbrev pub letter : ValueType → ℕ
letter I32 = 105
letter I64 = 73

-- the letters of some types, and `-` where there are none
abbrev pub letters : List ValueType → List ℕ
letters [] = codes "-"
letters (t ∷ types) = map letter (t ∷ types)

-- a function, with the letters of what it takes and of what it gives
abbrev pub typed_func : FunctionType → List ℕ
typed_func t = codes "func " ++ (letters t.parameters ++ (32 ∷ letters t.results))

-- (each function of a valid module has a type)
abbrev pub func_kind : Option FunctionType → List ℕ
func_kind None = codes "func"
func_kind (Some t) = typed_func t

-- what is imported
abbrev pub import_kind : Module → ImportKind → List ℕ
import_kind m (imported.Function k) = func_kind (slice_get m.types k)
import_kind m (imported.Table limits) = codes "table"
import_kind m (imported.Memory limits) = codes "memory"
import_kind m (imported.Global of) = codes "global"

-- what is exported
abbrev pub export_kind : Module → ExportKind → List ℕ
export_kind m (kinds.Function x) = func_kind (type_in m x)
export_kind m (kinds.Table x) = codes "table"
export_kind m (kinds.Memory x) = codes "memory"
export_kind m (kinds.Global x) = codes "global"

-- ---- lines

-- the line of an import: the name of its module, its own, and what it is
abbrev pub import_line : Module → Import → List ℕ
import_line m i = codes "import " ++ (hex_name i.«module» ++ (32 ∷ (hex_name i.name ++ (32 ∷ (import_kind m i.kind ++ 10 ∷ [])))))

-- the line of an export: its name, and what it is
abbrev pub export_line : Module → Export → List ℕ
export_line m e = codes "export " ++ (hex_name e.name ++ (32 ∷ (export_kind m e.kind ++ 10 ∷ [])))

-- a function is exported under the name of this role, and it is of the type there (in a valid module no two exports have one name)
abbrev pub has_callback : Module → Role → Bool
has_callback m r = fits_function m r (exported (role_name r) m.exports)

-- the line of a role, where there is one
abbrev pub callback_line : Module → Role → List ℕ
callback_line m r = if has_callback m r then codes "callback " ++ (role_name r ++ 10 ∷ []) else []

-- a function is exported under this name
abbrev pub has_marker : List ℕ → Module → Bool
has_marker name m = is_some (exported name m.exports)

-- the newer interface where the module says both
abbrev pub abi_line : Module → List ℕ
abi_line m =
    if has_marker (codes "proxy_abi_version_0_2_1") m then codes "abi 0.2.1\n"
    else (if has_marker (codes "proxy_abi_version_0_2_0") m then codes "abi 0.2.0\n" else codes "abi none\n")

-- ALL LINES
abbrev pub report_of : Module → List ℕ
report_of m = flat_map (import_line m) m.imports ++ (flat_map (export_line m) m.exports ++ (flat_map (callback_line m) all_roles ++ abi_line m))
