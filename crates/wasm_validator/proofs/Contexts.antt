-- The context of a code.
use Rattle.std.proofs.Common.{◌≡◌, ℕ, suc, List, [], ◌++◌, take, drop, Some, refl, sym, ap, subst, ◌∙◌}
use Rattle.std.proofs.lemmas.List.{take-append-drop}
use Rattle.wasm_syntax.specs.declared.types.ValueType.{ValueType}
use Rattle.wasm_syntax.specs.declared.types.FunctionType.{FunctionType}
use Rattle.wasm_syntax.specs.declared.module.Code.{Code}
use Rattle.wasm_syntax.specs.declared.module.Module.{Module}
use Rattle.wasm_syntax.specs.Typing.{Context, Is, IsTypedBody}
use Rattle.wasm_syntax.specs.Validity.{context_of, HasContext, IsCode, IsFirstUntyped}
use Rattle.wasm_validator.specs.declared.scope.Scope.{Scope}
use Rattle.wasm_validator.specs.Scopes.{IsScope}
use Rattle.wasm_validator.specs.Bodies.{StopsAt}

-- what a scope gives to a code
abbrev pub scope_context : Module → Scope → FunctionType → List ValueType → Context
scope_context m s t locals = record { types = m.types; functions = s.functions; tables = s.tables; memories = s.memories; globals = s.globals; locals = t.parameters ++ locals; labels = []; results = t.results }

-- it is the context of the function
pub scoped : (m : Module) (s : Scope) (t : FunctionType) (locals : List ValueType) → IsScope s m → scope_context m s t locals ≡ context_of m t locals
scoped m s t locals h = λ i. record {
  types = m.types;
  functions = h.functions i;
  tables = h.tables i;
  memories = h.memories i;
  globals = h.globals i;
  locals = t.parameters ++ locals;
  labels = [];
  results = t.results;
}

module _ (m : Module) (n x : ℕ) (t : FunctionType) (declared : Is m.functions n x) (typed : Is m.types x t) where
  pub has_context : (locals : List ValueType) → HasContext m n locals (context_of m t locals)
  has_context locals = record { type_index = x; type = t; declared = declared; typed = typed; context = refl }

  -- a function has one context
  pub one_context : (locals : List ValueType) (c : Context) → HasContext m n locals c → c ≡ context_of m t locals
  one_context locals c h =
      let same_index : h.type_index ≡ x = one_of m.functions n h.type_index x h.declared declared in
      let same_type : h.type ≡ t = one_of m.types x h.type t (subst (λ (k : ℕ). Is m.types k h.type) same_index h.typed) typed in
      h.context ∙ ap (λ u. context_of m u locals) same_type
    where
      one_of : {A : Type 0} (xs : List A) (k : ℕ) (a b : A) → Is xs k a → Is xs k b → a ≡ b
      one_of xs k a b p q = let e : Some a ≡ Some b = sym p ∙ q in cc

  pub good_code : (code : Code) → IsTypedBody (context_of m t code.locals) code.body → IsCode m n code
  good_code code h = record { context = context_of m t code.locals; has = has_context code.locals; typed = h }

  -- a body that stops is not typed
  pub bad_code : (code : Code) (place : ℕ) → StopsAt (context_of m t code.locals) code.body place → IsCode m n code → ⊥
  bad_code code place h good =
      let body : IsTypedBody (context_of m t code.locals) code.body = subst (λ c. IsTypedBody c code.body) (one_context code.locals good.context good.has) good.typed in
      h.ends (drop (suc place) code.body) (subst (IsTypedBody (context_of m t code.locals)) (sym (take-append-drop (suc place) code.body)) body)

  pub first_untyped : (code : Code) (place : ℕ) → StopsAt (context_of m t code.locals) code.body place → IsFirstUntyped m n code place
  first_untyped code place h = record {
    ends = λ goes. h.ends goes.1 (subst (λ c. IsTypedBody c (take (suc place) code.body ++ goes.1)) (one_context code.locals goes.0 goes.2) goes.3);
    goes = λ k lt. let on = h.goes k lt in (context_of m t code.locals, on.0, has_context code.locals, on.1);
  }
