-- What the host says of an import.
use Rattle.std.specs.Prelude.{ℕ, ◌&&◌, ◌||◌, Bool, true, false, if◌then◌else◌, List, [], ◌∷◌, Option, Some, None, bytes_eq, codes, length, nat_le, nat_eq}
use Rattle.std.specs.List.{starts_with}
use Rattle.std.specs.Option.{option_map, option_or}
use Rattle.wasm_syntax.specs.declared.types.ValueType.{ValueType}
use Rattle.wasm_syntax.specs.declared.types.ValueType.TheVariants.{I32, I64}
use Rattle.wasm_syntax.specs.declared.types.FunctionType.{FunctionType}
use Rattle.wasm_store.specs.declared.links.Judged.{Judged}
use Rattle.wasm_store.specs.declared.links.Judged.TheVariants.{Linked, Unknown, OtherType}
use Rattle.abi_model.specs.declared.table.Param.{Param}
use Rattle.abi_model.specs.declared.table.Param.TheVariants as param
use Rattle.abi_model.specs.declared.table.WasiCall.{WasiCall}
use Rattle.abi_model.specs.declared.table.WasiCall.TheVariants as wasi
use Rattle.abi_links.specs.declared.target.ImportTarget.{ImportTarget}
use Rattle.abi_links.specs.declared.target.ImportTarget.TheVariants as target
use Rattle.abi_model.specs.Table.{row_of, call_named, wasi_row_of, wasi_call_named}

-- ---- the types of a row

abbrev pub types_in : List Param → List ValueType
types_in [] = []
types_in (param.Number ∷ ps) = I32 ∷ types_in ps
types_in (param.Wide ∷ ps) = I64 ∷ types_in ps
types_in (param.Input ∷ ps) = I32 ∷ I32 ∷ types_in ps
types_in (param.Result ∷ ps) = I32 ∷ types_in ps
types_in (param.WideResult ∷ ps) = I32 ∷ types_in ps
types_in (param.Output ∷ ps) = I32 ∷ I32 ∷ types_in ps

-- a call of WASI gives a number, but for the one that never returns
abbrev pub wasi_results : WasiCall → List ValueType
wasi_results wasi.ProcExit = []
wasi_results c = I32 ∷ []

abbrev pub same_type : ValueType → ValueType → Bool
same_type I32 I32 = true
same_type I32 I64 = false
same_type I64 I32 = false
same_type I64 I64 = true

abbrev pub same_types : List ValueType → List ValueType → Bool
same_types [] [] = true
same_types [] (t ∷ ts) = false
same_types (t ∷ ts) [] = false
same_types (t ∷ ts) (u ∷ us) = same_type t u && same_types ts us

abbrev pub has_type : List ValueType → List ValueType → FunctionType → Bool
has_type takes gives t = same_types t.parameters takes && same_types t.results gives

-- ---- what a name stands for

-- A name of the module `env` that is none of the table's.
abbrev pub other_named : List ℕ → Option ImportTarget
other_named name =
    if bytes_eq name (codes "emscripten_notify_memory_growth") then Some target.MemoryGrowth
    else if starts_with nat_eq name (codes "proxy_") then Some target.OtherProxy
    else None

abbrev pub env_target : List ℕ → Option ImportTarget
env_target name = option_or (option_map target.Proxy (call_named name)) (other_named name)

abbrev pub wasi_target : List ℕ → Option ImportTarget
wasi_target name = option_or (option_map target.Wasi (wasi_call_named name)) (Some target.OtherWasi)

abbrev pub is_wasi : List ℕ → Bool
is_wasi home = bytes_eq home (codes "wasi_snapshot_preview1") || bytes_eq home (codes "wasi_unstable")

-- by the name of the module, and the name in it
unfoldable pub target_of : List ℕ → List ℕ → Option ImportTarget
target_of home name = if bytes_eq home (codes "env") then env_target name else if is_wasi home then wasi_target name else None

-- ---- and of which type it is

-- at most 16 numbers, and a number is given
abbrev pub is_lenient : FunctionType → Bool
is_lenient t = nat_le (length t.parameters) 16 && same_types t.results (I32 ∷ [])

abbrev pub fits_target : ImportTarget → FunctionType → Bool
fits_target (target.Proxy c) t = has_type (types_in (row_of c)) (I32 ∷ []) t
fits_target target.OtherProxy t = is_lenient t
fits_target target.MemoryGrowth t = has_type (I32 ∷ []) [] t
fits_target (target.Wasi c) t = has_type (types_in (wasi_row_of c)) (wasi_results c) t
fits_target target.OtherWasi t = is_lenient t

-- what the tables name has one type; what they do not name is not known with another one
abbrev pub misfit : ImportTarget → Judged
misfit (target.Proxy c) = OtherType
misfit target.OtherProxy = Unknown
misfit target.MemoryGrowth = Unknown
misfit (target.Wasi c) = OtherType
misfit target.OtherWasi = Unknown

abbrev pub judged_by : Option ImportTarget → FunctionType → Judged
judged_by None t = Unknown
judged_by (Some k) t = if fits_target k t then Linked else misfit k

-- THE JUDGEMENT
abbrev pub judged_of : List ℕ → List ℕ → FunctionType → Judged
judged_of home name t = judged_by (target_of home name) t

abbrev pub typed : List ValueType → List ValueType → FunctionType
typed takes gives = record { parameters = takes; results = gives }
