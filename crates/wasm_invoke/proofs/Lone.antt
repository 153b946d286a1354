-- A module that is linked on a host that offers nothing asks its host for nothing, and its start function takes nothing.
use Rattle.std.proofs.Common.{◌≡◌, ℕ, zero, suc, ◌<◌, List, [], ◌∷◌, ◌++◌, Bool, true, Option, Some, None, refl, sym, ap, ◌∙◌, subst, arith}
use Rattle.std.specs.Prelude.{slice_get, position, cond}
use Rattle.std.specs.List.{position_from}
use Rattle.std.proofs.lemmas.Iterator.Adapters.{position_from-zero}
use Rattle.std.specs.Option.{option_map, option_or}
use Rattle.wasm_syntax.specs.declared.types.FunctionType.{FunctionType}
use Rattle.wasm_syntax.specs.declared.module.ImportKind.{ImportKind}
use Rattle.wasm_syntax.specs.declared.module.ImportKind.TheVariants as imports
use Rattle.wasm_syntax.specs.declared.module.Import.{Import}
use Rattle.wasm_syntax.specs.declared.module.Code.{Code}
use Rattle.wasm_syntax.specs.declared.module.Module.{Module}
use Rattle.wasm_syntax.specs.declared.valid.Part.TheVariants as part
use Rattle.wasm_syntax.specs.Typing.{Is}
use Rattle.wasm_syntax.specs.Validity.{function_of as index_of, imports_of, IsStart, IsGood, starts, IsValid}
use Rattle.wasm_syntax.specs.Reduction.{imported}
use Rattle.wasm_syntax.specs.ReductionPrograms.{host_functions, own_functions, program_of}
use Rattle.wasm_store.specs.declared.instance.LinkEnd.{LinkEnd}
use Rattle.wasm_store.specs.declared.instance.LinkEnd.TheVariants.{UnknownImport}
use Rattle.wasm_store.specs.Linking.{judged_as, judged_kind, judgement, is_unknown, link_fault}
use Rattle.wasm_flat.proofs.Splits.{same_some, no_some}
use Rattle.wasm_flat.proofs.Valid.{program_fits}
use Rattle.wasm_invoke.specs.Invoking.{nothing_offered, pages}
use Rattle.wasm_invoke.specs.Readied.{AsksNobody, TakesNothing}

-- ---- imports

of_unknown_type : (home name : List ℕ) (o : Option FunctionType) → is_unknown (judged_as nothing_offered home name o) ≡ true
of_unknown_type home name None = refl
of_unknown_type home name (Some t) = refl

each_unknown : (types : List FunctionType) (home name : List ℕ) (k : ImportKind) → is_unknown (judged_kind nothing_offered types home name k) ≡ true
each_unknown types home name (imports.Function x) = of_unknown_type home name (slice_get types x)
each_unknown types home name (imports.Table l) = refl
each_unknown types home name (imports.Memory l) = refl
each_unknown types home name (imports.Global g) = refl

-- the first import of some is unknown
none_unknown : (types : List FunctionType) (is : List Import) (rest : Option LinkEnd)
    → option_or (option_map UnknownImport (position (λ (i : Import). is_unknown (judgement nothing_offered types i)) is)) rest ≡ None → is ≡ []
none_unknown types [] rest e = refl
none_unknown types (i ∷ is) rest e =
    let test = λ (i : Import). is_unknown (judgement nothing_offered types i) in
    absurd (some_stands rest
    (subst (λ (b : Bool). option_or (option_map UnknownImport (cond b (Some 0) (position_from test 1 is))) rest ≡ None) (each_unknown types i.module i.name i.kind)
    (subst (λ (o : Option ℕ). option_or (option_map UnknownImport o) rest ≡ None) (position_from-zero test (i ∷ is)) e)))
  where
    some_stands : (rest : Option LinkEnd) → option_or (Some (UnknownImport 0)) rest ≡ None → ⊥
    some_stands rest e = cc

no_imports : (m : Module) → link_fault nothing_offered m pages ≡ None → m.imports ≡ []
no_imports m none = none_unknown m.types m.imports _ none

-- ---- functions

own_only : (types : List FunctionType) (ys : List ℕ) (cs : List Code) (x : ℕ) (t : FunctionType) → slice_get (own_functions types ys cs) x ≡ Some (imported t) → ⊥
own_only types [] cs x t e = no_some (imported t) e
own_only types (y ∷ ys) [] x t e = no_some (imported t) e
own_only types (y ∷ ys) (c ∷ cs) zero t e = cc
own_only types (y ∷ ys) (c ∷ cs) (suc x) t e = own_only types ys cs x t e

pub asks_nobody : (m : Module) → link_fault nothing_offered m pages ≡ None → AsksNobody (program_of m pages)
asks_nobody m none x t is =
    own_only m.types m.functions m.codes x t
    (subst (λ (list : List Import). Is (host_functions m.types (imports_of index_of list) ++ own_functions m.types m.functions m.codes) x (imported t)) (no_imports m none) is)

-- ---- the start function

starts_at : (m : Module) (x : ℕ) → IsValid m → m.start ≡ Some x → IsStart m x
starts_at m x valid e =
    let good : IsGood m part.Start 0 = valid.entries part.Start 0 (subst (λ (n : ℕ). 0 < n) (sym (ap starts e)) (omega arith)) in
    subst (λ (y : ℕ). IsStart m y) (same_some good.0 x (sym good.1 ∙ e)) good.2

pub takes_nothing : (m : Module) → IsValid m → (o : Option ℕ) → m.start ≡ o → TakesNothing (program_of m pages) o
takes_nothing m valid None e = tt
takes_nothing m valid (Some x) e =
    let start = starts_at m x valid e in
    (record { parameters = []; results = [] }, (program_fits m pages valid).typed x start.0 (record { parameters = []; results = [] }) start.1 start.2, refl)
