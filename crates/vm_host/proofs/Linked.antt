-- What is linked has a target of its type for each import, and each answer of a closed host fits.
use Rattle.std.proofs.Common.{◌≡◌, ℕ, zero, suc, List, [], ◌∷◌, ◌++◌, true, Option, None, Some, refl, sym, ap, ◌∙◌, subst, unwrap_or}
use Rattle.std.specs.Prelude.{slice_get}
use Rattle.std.specs.List.{cons_option}
use Rattle.wasm_syntax.specs.declared.types.ValueType.{ValueType}
use Rattle.wasm_syntax.specs.declared.types.ValueType.TheVariants as type
use Rattle.wasm_syntax.specs.declared.types.FunctionType.{FunctionType}
use Rattle.wasm_syntax.specs.declared.module.ImportKind.{ImportKind}
use Rattle.wasm_syntax.specs.declared.module.ImportKind.TheVariants as kinds
use Rattle.wasm_syntax.specs.declared.module.Import.{Import}
use Rattle.wasm_syntax.specs.declared.module.Code.{Code}
use Rattle.wasm_syntax.specs.declared.module.Module.{Module}
use Rattle.wasm_syntax.specs.Validity.{function_of, imports_of}
use Rattle.wasm_syntax.specs.Reduction.{Function, imported}
use Rattle.wasm_syntax.specs.ReductionPrograms.{type_at, host_functions, own_functions, program_of}
use Rattle.wasm_store.specs.declared.links.Judged.{Judged}
use Rattle.wasm_store.specs.declared.links.Judged.TheVariants as judged
use Rattle.wasm_store.specs.declared.instance.LinkEnd.TheVariants as end
use Rattle.wasm_store.specs.Linking.{judged_as, judged_kind, judgement, link_fault}
use Rattle.wasm_store.proofs.Causes.{none_is_clear}
use Rattle.wasm_flat.proofs.Splits.{same_some, no_some}
use Rattle.abi_links.specs.declared.target.ImportTarget.{ImportTarget}
use Rattle.abi_links.specs.declared.target.ImportTarget.TheVariants as target
use Rattle.abi_model.specs.declared.table.WasiCall.TheVariants as wasi
use Rattle.abi_model.specs.Table.{row_of, wasi_row_of}
use Rattle.abi_links.specs.Judging.{types_in, wasi_results, target_of, fits_target, judged_of}
use Rattle.abi_links.specs.Short.{linked_fits, has_types, lenient_gives}
use Rattle.vm_host.specs.Seeing.{Answers, AreClosings}
use Rattle.vm_host.specs.Dispatching.{TakesAs, results_for}
use Rattle.vm_host.specs.Targets.{targets_of, AreTargets, closing_of, closings_of}

-- ---- each import is linked

abbrev AllLinked : List FunctionType → List Import → Type 0
AllLinked types [] = Unit {0}
AllLinked types (i ∷ is) = (judgement judged_of types i ≡ judged.Linked) × AllLinked types is

linked_by : (j : Judged) → (j ≡ judged.Unknown → ⊥) → (j ≡ judged.OtherType → ⊥) → j ≡ judged.Linked
linked_by judged.Linked known same = refl
linked_by judged.Unknown known same = absurd (known refl)
linked_by judged.OtherType known same = absurd (same refl)

abbrev Clear : List FunctionType → List Import → Type 0
Clear types is = (n : ℕ) (i : Import) → slice_get is n ≡ Some i → judgement judged_of types i ≡ judged.Linked

all_linked : (types : List FunctionType) (is : List Import) → Clear types is → AllLinked types is
all_linked types [] clear = tt
all_linked types (i ∷ is) clear = (clear zero i refl, all_linked types is (λ n j e. clear (suc n) j e))

clear_of : (m : Module) (pages : ℕ) → link_fault judged_of m pages ≡ None → Clear m.types m.imports
clear_of m pages none n i there =
    linked_by (judgement judged_of m.types i)
    (λ e. none_is_clear judged_of m pages none (end.UnknownImport n) (record { member = i; there = there; such = e }))
    (λ e. none_is_clear judged_of m pages none (end.ImportType n) (record { member = i; there = there; such = e }))

-- ---- and has a target

own_only : (types : List FunctionType) (ys : List ℕ) (cs : List Code) (x : ℕ) (t : FunctionType) → slice_get (own_functions types ys cs) x ≡ Some (imported t) → ⊥
own_only types [] cs x t e = no_some (imported t) e
own_only types (y ∷ ys) [] x t e = no_some (imported t) e
own_only types (y ∷ ys) (c ∷ cs) zero t e = cc
own_only types (y ∷ ys) (c ∷ cs) (suc x) t e = own_only types ys cs x t e

abbrev Targeted : List ImportTarget → ℕ → FunctionType → Type 0
Targeted targets x t = (k : ImportTarget) × (slice_get targets x ≡ Some k) × (fits_target k t ≡ true)

-- the type that was judged, and its target
by_type : (home name : List ℕ) (o : Option FunctionType) → judged_as judged_of home name o ≡ judged.Linked →
    (t : FunctionType) × (o ≡ Some t) × (fits_target (unwrap_or (target_of home name) target.OtherProxy) t ≡ true)
by_type home name None is = absurd (cc)
by_type home name (Some t) is =
    let h = linked_fits (target_of home name) t is in
    (t, refl, subst (λ (o : Option ImportTarget). fits_target (unwrap_or o target.OtherProxy) t ≡ true) (sym h.1) h.2)

same_type : (a b : FunctionType) → imported a ≡ imported b → a ≡ b
same_type a b e = cc

type_there : (types : List FunctionType) (f : ℕ) (t : FunctionType) → slice_get types f ≡ Some t → type_at types f ≡ t
type_there types f t e = ap (λ o. unwrap_or o (record { parameters = []; results = [] })) e

here_targeted : (types : List FunctionType) (home name : List ℕ) (f : ℕ) (rest : List ImportTarget) (t : FunctionType) → judged_as judged_of home name (slice_get types f) ≡ judged.Linked →
    Some (imported (type_at types f)) ≡ Some (imported t) → Targeted (unwrap_or (target_of home name) target.OtherProxy ∷ rest) zero t
here_targeted types home name f rest t linked same =
    let h = by_type home name (slice_get types f) linked in
    let is : h.0 ≡ t = sym (type_there types f h.0 h.1) ∙ same_type (type_at types f) t (same_some (imported (type_at types f)) (imported t) same) in
    (unwrap_or (target_of home name) target.OtherProxy, refl, subst (λ (u : FunctionType). fits_target (unwrap_or (target_of home name) target.OtherProxy) u ≡ true) is h.2)

module _ (types : List FunctionType) (own : List Function) (alone : (x : ℕ) (t : FunctionType) → slice_get own x ≡ Some (imported t) → ⊥) where
  by_kind : (home name : List ℕ) (kind : ImportKind) (is : List Import) → judged_kind judged_of types home name kind ≡ judged.Linked →
      ((x : ℕ) (t : FunctionType) → slice_get (host_functions types (imports_of function_of is) ++ own) x ≡ Some (imported t) → Targeted (targets_of is) x t) →
      (x : ℕ) (t : FunctionType) → slice_get (host_functions types (cons_option (function_of kind) (imports_of function_of is)) ++ own) x ≡ Some (imported t) →
      Targeted (unwrap_or (target_of home name) target.OtherProxy ∷ targets_of is) x t
  by_kind home name (kinds.Function f) is linked more zero t e = here_targeted types home name f (targets_of is) t linked e
  by_kind home name (kinds.Function f) is linked more (suc x) t e = more x t e
  by_kind home name (kinds.Table l) is linked more x t e = absurd (cc)
  by_kind home name (kinds.Memory l) is linked more x t e = absurd (cc)
  by_kind home name (kinds.Global g) is linked more x t e = absurd (cc)

  targeted : (is : List Import) → AllLinked types is → (x : ℕ) (t : FunctionType) → slice_get (host_functions types (imports_of function_of is) ++ own) x ≡ Some (imported t) → Targeted (targets_of is) x t
  targeted [] linked x t e = absurd (alone x t e)
  targeted (i ∷ is) linked x t e = by_kind i.module i.name i.kind is linked.0 (λ y u d. targeted is linked.1 y u d) x t e

-- THE TIE of linking to what is asked
pub are_targets : (m : Module) (pages : ℕ) → link_fault judged_of m pages ≡ None → AreTargets (targets_of m.imports) (program_of m pages)
are_targets m pages none x t is =
    targeted m.types (own_functions m.types m.functions m.codes) (λ y u e. own_only m.types m.functions m.codes y u e) m.imports (all_linked m.types m.imports (clear_of m pages none)) x t is

-- ---- and an answer of the closed host

pub target_takes : (k : ImportTarget) (t : FunctionType) → fits_target k t ≡ true → TakesAs k t.parameters
target_takes (target.Proxy c) t is = (has_types (types_in (row_of c)) (type.I32 ∷ []) t is).0
target_takes target.OtherProxy t is = tt
target_takes target.MemoryGrowth t is = tt
target_takes (target.Wasi c) t is = (has_types (types_in (wasi_row_of c)) (wasi_results c) t is).0
target_takes target.OtherWasi t is = tt

pub target_gives : (k : ImportTarget) (t : FunctionType) → fits_target k t ≡ true → t.results ≡ results_for k
target_gives (target.Proxy c) t is = (has_types (types_in (row_of c)) (type.I32 ∷ []) t is).1
target_gives target.OtherProxy t is = (lenient_gives t is).1
target_gives target.MemoryGrowth t is = (has_types (type.I32 ∷ []) [] t is).1
target_gives (target.Wasi c) t is = (has_types (types_in (wasi_row_of c)) (wasi_results c) t is).1
target_gives target.OtherWasi t is = (lenient_gives t is).1

closing_answers : (k : ImportTarget) → Answers (closing_of k) (results_for k)
closing_answers (target.Proxy c) = refl
closing_answers target.OtherProxy = refl
closing_answers target.MemoryGrowth = tt
closing_answers (target.Wasi wasi.FdWrite) = refl
closing_answers (target.Wasi wasi.ClockTimeGet) = refl
closing_answers (target.Wasi wasi.RandomGet) = refl
closing_answers (target.Wasi wasi.EnvironGet) = refl
closing_answers (target.Wasi wasi.ArgsGet) = refl
closing_answers (target.Wasi wasi.EnvironSizesGet) = refl
closing_answers (target.Wasi wasi.ArgsSizesGet) = refl
closing_answers (target.Wasi wasi.ProcExit) = tt
closing_answers target.OtherWasi = refl

closing_at : (ks : List ImportTarget) (x : ℕ) (k : ImportTarget) → slice_get ks x ≡ Some k → slice_get (closings_of ks) x ≡ Some (closing_of k)
closing_at [] x k e = absurd (no_some k e)
closing_at (j ∷ ks) zero k e = ap (λ (i : ImportTarget). Some (closing_of i)) (same_some j k e)
closing_at (j ∷ ks) (suc x) k e = closing_at ks x k e

pub are_closings : (m : Module) (pages : ℕ) → link_fault judged_of m pages ≡ None → AreClosings (program_of m pages) (closings_of (targets_of m.imports))
are_closings m pages none x t is =
    let h = are_targets m pages none x t is in
    (closing_of h.0, closing_at (targets_of m.imports) x h.0 h.1, subst (λ (ts : List ValueType). Answers (closing_of h.0) ts) (sym (target_gives h.0 t h.2)) (closing_answers h.0))
