-- WHICH MODULES ARE FILTERS', worked: modules that are written out, each with what stands first against it.
use Rattle.std.specs.Prelude.{◌≡◌, ℕ, List, [], ◌∷◌, None, Some, codes}
use Rattle.vm_host.specs.Fits.{fit_fault}
use Rattle.vm_host.specs.declared.fitting.FitEnd.TheVariants as ends
use Rattle.wasm_store.specs.declared.instance.LinkEnd.TheVariants as linking
use Rattle.wasm_syntax.specs.Grammar.{empty_module}
use Rattle.wasm_syntax.specs.declared.module.Export.{Export}
use Rattle.wasm_syntax.specs.declared.module.ExportKind.{ExportKind}
use Rattle.wasm_syntax.specs.declared.module.ExportKind.TheVariants as exported
use Rattle.wasm_syntax.specs.declared.module.ImportKind.TheVariants as imported
use Rattle.wasm_syntax.specs.declared.module.Module.{Module}
use Rattle.wasm_syntax.specs.declared.types.FunctionType.{FunctionType}
use Rattle.wasm_syntax.specs.declared.types.ValueType.{ValueType}
use Rattle.wasm_syntax.specs.declared.types.ValueType.TheVariants.{I32, I64}

abbrev pub typed : List ValueType → List ValueType → FunctionType
typed takes gives = record { parameters = takes; results = gives }

abbrev pub export : List ℕ → ExportKind → Export
export name kind = record { name = name; kind = kind }

-- A module with one function of each of these types, in this order, and a memory of a page. What its functions do says nothing of whether it fits.
abbrev pub five_types : List FunctionType
five_types = typed [] [] ∷ typed (I32 ∷ []) (I32 ∷ []) ∷ typed (I32 ∷ []) [] ∷ typed (I64 ∷ []) (I32 ∷ []) ∷ typed (I32 ∷ I32 ∷ []) (I32 ∷ []) ∷ []

abbrev pub with_exports : List Export → Module
with_exports exports = record empty_module {
  types = five_types;
  functions = 0 ∷ 1 ∷ 2 ∷ 3 ∷ 4 ∷ [];
  memories = record { minimum = 1; maximum = None } ∷ [];
  exports = exports;
}

abbrev pub marker : Export
marker = export (codes "proxy_abi_version_0_2_1") (exported.Function 0)

abbrev pub done_as : ExportKind → Export
done_as kind = export (codes "proxy_on_done") kind

-- with the marker in front, or without one
abbrev pub marked : List Export → Module
marked exports = with_exports (marker ∷ exports)

abbrev pub sized : (pages : ℕ) → Module → Module
sized pages m = record m { memories = record { minimum = pages; maximum = None } ∷ [] }

-- it imports a function of this name from `env`, of type 0, which takes nothing and gives nothing
abbrev pub importing : List ℕ → Module → Module
importing name m = record m { imports = record { «module» = codes "env"; name = name; kind = imported.Function 0 } ∷ [] }

pub record FitExamples : Type 0 where
  -- the marker is a function of either name
  pub marker_alone : fit_fault (marked []) 1 ≡ None
  pub older_marker : fit_fault (with_exports (export (codes "proxy_abi_version_0_2_0") (exported.Function 0) ∷ [])) 1 ≡ None
  pub other_version : fit_fault (with_exports (export (codes "proxy_abi_version_0_1_0") (exported.Function 0) ∷ [])) 1 ≡ Some ends.NoAbi
  pub no_marker : fit_fault (with_exports []) 1 ≡ Some ends.NoAbi
  pub memory_as_marker : fit_fault (with_exports (export (codes "proxy_abi_version_0_2_1") (exported.Memory 0) ∷ [])) 1 ≡ Some ends.NoAbi
  pub behind_others : fit_fault (with_exports (export (codes "memory") (exported.Memory 0) ∷ marker ∷ [])) 1 ≡ None
  -- a name of the table is that of a function of its type: `proxy_on_done` takes a number and gives one
  pub done_fits : fit_fault (marked (done_as (exported.Function 1) ∷ [])) 1 ≡ None
  pub takes_nothing : fit_fault (marked (done_as (exported.Function 0) ∷ [])) 1 ≡ Some ends.CallbackType
  pub gives_nothing : fit_fault (marked (done_as (exported.Function 2) ∷ [])) 1 ≡ Some ends.CallbackType
  pub takes_a_long_one : fit_fault (marked (done_as (exported.Function 3) ∷ [])) 1 ≡ Some ends.CallbackType
  pub takes_two : fit_fault (marked (done_as (exported.Function 4) ∷ [])) 1 ≡ Some ends.CallbackType
  pub is_memory : fit_fault (marked (done_as (exported.Memory 0) ∷ [])) 1 ≡ Some ends.CallbackType
  pub behind_a_good_one : fit_fault (marked (done_as (exported.Function 1) ∷ export (codes "proxy_on_log") (exported.Function 0) ∷ [])) 1 ≡ Some ends.CallbackType
  pub before_marker : fit_fault (with_exports (done_as (exported.Memory 0) ∷ marker ∷ [])) 1 ≡ Some ends.CallbackType
  -- other names may be anything
  pub other_name : fit_fault (marked (export (codes "proxy_on_donee") (exported.Memory 0) ∷ [])) 1 ≡ None
  -- the marker is asked for before types are looked at, and linking before both
  pub misfit_unmarked : fit_fault (with_exports (done_as (exported.Function 0) ∷ [])) 1 ≡ Some ends.NoAbi
  pub unknown_unmarked : fit_fault (importing (codes "unknown") (with_exports (done_as (exported.Function 0) ∷ []))) 1 ≡ Some (ends.Unlinked (linking.UnknownImport 0))
  pub unknown_marked : fit_fault (importing (codes "unknown") (marked [])) 1 ≡ Some (ends.Unlinked (linking.UnknownImport 0))
  pub other_type : fit_fault (importing (codes "proxy_done") (with_exports [])) 1 ≡ Some (ends.Unlinked (linking.ImportType 0))
  pub pages_unmarked : fit_fault (sized 2 (with_exports [])) 1 ≡ Some (ends.Unlinked linking.PagesOverCap)
  pub pages_misfit : fit_fault (sized 2 (marked (done_as (exported.Function 0) ∷ []))) 1 ≡ Some (ends.Unlinked linking.PagesOverCap)
  pub as_many_pages : fit_fault (sized 2 (marked [])) 2 ≡ None
  pub as_many_unmarked : fit_fault (sized 2 (with_exports [])) 2 ≡ Some ends.NoAbi
