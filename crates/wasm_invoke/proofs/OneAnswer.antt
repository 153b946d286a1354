-- A call has one answer.
use Rattle.std.proofs.Common.{◌≡◌, ℕ, List, Option, None, Some, Ok, Err, refl, sym, ap, ◌∙◌, subst}
use Rattle.gate_base.specs.declared.cause.Cause.{Cause}
use Rattle.wasm_syntax.specs.declared.types.Value.{Value}
use Rattle.wasm_syntax.specs.declared.types.FunctionType.{FunctionType}
use Rattle.wasm_syntax.specs.declared.module.Module.{Module}
use Rattle.wasm_syntax.specs.Grammar.{Spells}
use Rattle.wasm_syntax.specs.Validity.{IsValid}
use Rattle.wasm_syntax.specs.Reduction.{type_of_function}
use Rattle.wasm_syntax.specs.ReductionPrograms.{program_of}
use Rattle.wasm_syntax.proofs.ModuleLaws.{one_module, not_both, one_fault}
use Rattle.wasm_store.specs.declared.instance.LinkEnd.{LinkEnd}
use Rattle.wasm_store.specs.Linking.{link_fault}
use Rattle.wasm_flat.specs.Holds.{HasType}
use Rattle.wasm_flat.proofs.Splits.{same_some, no_some}
use Rattle.wasm_invoke.specs.declared.ends.Refusal.{Refusal}
use Rattle.wasm_invoke.specs.declared.ends.Refusal.TheVariants as refusals
use Rattle.wasm_invoke.specs.declared.ends.End.TheVariants as ends
use Rattle.wasm_invoke.specs.declared.ends.Invoked.{Invoked}
use Rattle.wasm_invoke.specs.Arguments.{values_of}
use Rattle.wasm_invoke.specs.Exports.{exported}
use Rattle.wasm_invoke.specs.Invoking.{nothing_offered, pages, Went, answered, trapped, spent, went, AreArguments, Refuses}
use Rattle.wasm_invoke.specs.Laws.{OneAnswer, OneWay, RefusedOrGoes}

-- ---- what is called

one_type : (m : Module) (x : ℕ) (t u : FunctionType) → HasType (program_of m pages) x t → HasType (program_of m pages) x u → t ≡ u
one_type m x t u f g = sym f.2 ∙ ap type_of_function (same_some f.0 g.0 (sym f.1 ∙ g.1)) ∙ g.2

one_index : (o : Option ℕ) (x y : ℕ) → o ≡ Some x → o ≡ Some y → x ≡ y
one_index o x y e f = same_some x y (sym e ∙ f)

went_alike : (m : Module) (x : ℕ) (words : List (List ℕ)) (t u : FunctionType) (v w : Went) → t ≡ u
    → went m x (values_of t.parameters words) ≡ v → went m x (values_of u.parameters words) ≡ w → v ≡ w
went_alike m x words t u v w e f g = sym f ∙ ap (λ (k : FunctionType). went m x (values_of k.parameters words)) e ∙ g

way_of : (words : List (List ℕ)) (m n : Module) (x y : ℕ) (v w : Went) → m ≡ n → x ≡ y
    → (a : AreArguments m x words) → (b : AreArguments n y words)
    → went m x (values_of a.type.parameters words) ≡ v → went n y (values_of b.type.parameters words) ≡ w → v ≡ w
way_of words m n x y v w same at a b f g =
    went_alike m x words a.type b.type v w
    (one_type m x a.type b.type a.typed (subst (λ (z : ℕ). HasType (program_of m pages) z b.type) (sym at) (subst (λ (k : Module). HasType (program_of k pages) y b.type) (sym same) b.typed)))
    f
    (ap (λ (z : ℕ). went m z (values_of b.type.parameters words)) at ∙ ap (λ (k : Module). went k y (values_of b.type.parameters words)) same ∙ g)

pub one_way : OneWay
one_way bytes export words v w g h =
    let same : g.of ≡ h.of = one_module bytes g.of h.of g.is.spelled h.is.spelled in
    let at : g.index ≡ h.index = one_index (exported export h.of.exports) g.index h.index (ap (λ (m : Module). exported export m.exports) (sym same) ∙ g.export_is) h.export_is in
    way_of words g.of h.of g.index h.index v w same at g.arguments h.arguments g.how h.how

-- ---- what stands against it

valid_of : (bytes : List ℕ) (m n : Module) → Spells bytes m → Spells bytes n → IsValid n → IsValid m
valid_of bytes m n s t valid = subst (λ (k : Module). IsValid k) (one_module bytes n m t s) valid

fault_of : (bytes : List ℕ) (m n : Module) (o p : Option LinkEnd) → Spells bytes m → Spells bytes n → link_fault nothing_offered m pages ≡ o → link_fault nothing_offered n pages ≡ p → o ≡ p
fault_of bytes m n o p s t e f = sym e ∙ ap (λ (k : Module). link_fault nothing_offered k pages) (one_module bytes m n s t) ∙ f

export_of : (bytes export : List ℕ) (m n : Module) (o p : Option ℕ) → Spells bytes m → Spells bytes n → exported export m.exports ≡ o → exported export n.exports ≡ p → o ≡ p
export_of bytes export m n o p s t e f = sym e ∙ ap (λ (k : Module). exported export k.exports) (one_module bytes m n s t) ∙ f

none_is_some : {A : Type 0} → (x : A) → None ≡ Some x → ⊥
none_is_some x e = no_some x e

arguments_of : (bytes : List ℕ) (words : List (List ℕ)) (m n : Module) (x y : ℕ) → Spells bytes m → Spells bytes n → x ≡ y → AreArguments n y words → AreArguments m x words
arguments_of bytes words m n x y s t e a = subst (λ (k : Module). AreArguments k x words) (one_module bytes n m t s) (subst (λ (z : ℕ). AreArguments n z words) (sym e) a)

pub refused_or_goes : RefusedOrGoes
refused_or_goes bytes export words (refusals.Unread number place) w r g = not_both bytes g.of number place g.is.spelled r
refused_or_goes bytes export words refusals.Invalid w r g = r.2 (valid_of bytes r.0 g.of r.1 g.is.spelled g.is.valid)
refused_or_goes bytes export words (refusals.Unlinked fault) w r g = none_is_some fault (fault_of bytes g.of r.0 None (Some fault) g.is.spelled r.1 g.is.linked r.3)
refused_or_goes bytes export words refusals.NoExport w r g = none_is_some g.index (export_of bytes export r.0 g.of None (Some g.index) r.1.spelled g.is.spelled r.2 g.export_is)
refused_or_goes bytes export words refusals.Arguments w r g =
    r.4 (arguments_of bytes words r.0 g.of r.1 g.index r.2.spelled g.is.spelled
    (same_some r.1 g.index (export_of bytes export r.0 g.of (Some r.1) (Some g.index) r.2.spelled g.is.spelled r.3 g.export_is)) g.arguments)

faults_alike : (m n p q : ℕ) → (m ≡ n) × (p ≡ q) → refusals.Unread m p ≡ refusals.Unread n q
faults_alike m n p q e = ap (λ (k : ℕ). refusals.Unread k p) e.0 ∙ ap (λ (k : ℕ). refusals.Unread n k) e.1

one_refusal : (bytes export : List ℕ) (words : List (List ℕ)) (r s : Refusal) → Refuses bytes export words r → Refuses bytes export words s → r ≡ s
one_refusal bytes export words (refusals.Unread m p) (refusals.Unread n q) r s = faults_alike m n p q (one_fault bytes m n p q r s)
one_refusal bytes export words (refusals.Unread m p) refusals.Invalid r s = absurd (not_both bytes s.0 m p s.1 r)
one_refusal bytes export words (refusals.Unread m p) (refusals.Unlinked f) r s = absurd (not_both bytes s.0 m p s.1 r)
one_refusal bytes export words (refusals.Unread m p) refusals.NoExport r s = absurd (not_both bytes s.0 m p s.1.spelled r)
one_refusal bytes export words (refusals.Unread m p) refusals.Arguments r s = absurd (not_both bytes s.0 m p s.2.spelled r)
one_refusal bytes export words refusals.Invalid (refusals.Unread n q) r s = absurd (not_both bytes r.0 n q r.1 s)
one_refusal bytes export words refusals.Invalid refusals.Invalid r s = refl
one_refusal bytes export words refusals.Invalid (refusals.Unlinked f) r s = absurd (r.2 (valid_of bytes r.0 s.0 r.1 s.1 s.2))
one_refusal bytes export words refusals.Invalid refusals.NoExport r s = absurd (r.2 (valid_of bytes r.0 s.0 r.1 s.1.spelled s.1.valid))
one_refusal bytes export words refusals.Invalid refusals.Arguments r s = absurd (r.2 (valid_of bytes r.0 s.0 r.1 s.2.spelled s.2.valid))
one_refusal bytes export words (refusals.Unlinked f) (refusals.Unread n q) r s = absurd (not_both bytes r.0 n q r.1 s)
one_refusal bytes export words (refusals.Unlinked f) refusals.Invalid r s = absurd (s.2 (valid_of bytes s.0 r.0 s.1 r.1 r.2))
one_refusal bytes export words (refusals.Unlinked f) (refusals.Unlinked g) r s = ap (λ (l : LinkEnd). refusals.Unlinked l) (same_some f g (fault_of bytes r.0 s.0 (Some f) (Some g) r.1 s.1 r.3 s.3))
one_refusal bytes export words (refusals.Unlinked f) refusals.NoExport r s = absurd (none_is_some f (fault_of bytes s.0 r.0 None (Some f) s.1.spelled r.1 s.1.linked r.3))
one_refusal bytes export words (refusals.Unlinked f) refusals.Arguments r s = absurd (none_is_some f (fault_of bytes s.0 r.0 None (Some f) s.2.spelled r.1 s.2.linked r.3))
one_refusal bytes export words refusals.NoExport (refusals.Unread n q) r s = absurd (not_both bytes r.0 n q r.1.spelled s)
one_refusal bytes export words refusals.NoExport refusals.Invalid r s = absurd (s.2 (valid_of bytes s.0 r.0 s.1 r.1.spelled r.1.valid))
one_refusal bytes export words refusals.NoExport (refusals.Unlinked g) r s = absurd (none_is_some g (fault_of bytes r.0 s.0 None (Some g) r.1.spelled s.1 r.1.linked s.3))
one_refusal bytes export words refusals.NoExport refusals.NoExport r s = refl
one_refusal bytes export words refusals.NoExport refusals.Arguments r s = absurd (none_is_some s.1 (export_of bytes export r.0 s.0 None (Some s.1) r.1.spelled s.2.spelled r.2 s.3))
one_refusal bytes export words refusals.Arguments (refusals.Unread n q) r s = absurd (not_both bytes r.0 n q r.2.spelled s)
one_refusal bytes export words refusals.Arguments refusals.Invalid r s = absurd (s.2 (valid_of bytes s.0 r.0 s.1 r.2.spelled r.2.valid))
one_refusal bytes export words refusals.Arguments (refusals.Unlinked g) r s = absurd (none_is_some g (fault_of bytes r.0 s.0 None (Some g) r.2.spelled s.1 r.2.linked s.3))
one_refusal bytes export words refusals.Arguments refusals.NoExport r s = absurd (none_is_some r.1 (export_of bytes export s.0 r.0 None (Some r.1) s.1.spelled r.2.spelled s.2 r.3))
one_refusal bytes export words refusals.Arguments refusals.Arguments r s = refl

-- ---- answers

same_results : (o p : Option Value) (m n : ℕ) → answered o m ≡ answered p n → o ≡ p
same_results o p m n e = cc

same_units : (o p : Option Value) (m n : ℕ) → answered o m ≡ answered p n → m ≡ n
same_units o p m n e = cc

results_alike : (i j : Invoked) → answered i.result i.used ≡ answered j.result j.used → i ≡ j
results_alike i j e = λ k. record { result = same_results i.result j.result i.used j.used e k; used = same_units i.result j.result i.used j.used e k }

causes_alike : (c d : Cause) → trapped c ≡ trapped d → c ≡ d
causes_alike c d e = cc

result_or_trap : (o : Option Value) (used : ℕ) (c : Cause) → answered o used ≡ trapped c → ⊥
result_or_trap o used c e = absurd cc

result_or_spent : (o : Option Value) (used : ℕ) → answered o used ≡ spent → ⊥
result_or_spent o used e = absurd cc

trap_or_spent : (c : Cause) → trapped c ≡ spent → ⊥
trap_or_spent c e = absurd cc

pub one_answer : OneAnswer
one_answer bytes export words (Ok i) (Ok j) n o g h = ap (λ (k : Invoked). Ok k) (results_alike i j (one_way bytes export words (answered i.result i.used) (answered j.result j.used) g h))
one_answer bytes export words (Ok i) (Err (ends.Refused q)) n o g h = absurd (refused_or_goes bytes export words q (answered i.result i.used) h g)
one_answer bytes export words (Ok i) (Err (ends.Trapped c)) n o g h = absurd (result_or_trap i.result i.used c (one_way bytes export words (answered i.result i.used) (trapped c) g h))
one_answer bytes export words (Ok i) (Err ends.FuelSpent) n o g h = absurd (result_or_spent i.result i.used (one_way bytes export words (answered i.result i.used) spent g h))
one_answer bytes export words (Ok i) (Err ends.OutOfMemory) n o g h = absurd (o refl)
one_answer bytes export words (Err (ends.Refused p)) (Ok j) n o g h = absurd (refused_or_goes bytes export words p (answered j.result j.used) g h)
one_answer bytes export words (Err (ends.Refused p)) (Err (ends.Refused q)) n o g h = ap (λ (k : Refusal). Err (ends.Refused k)) (one_refusal bytes export words p q g h)
one_answer bytes export words (Err (ends.Refused p)) (Err (ends.Trapped c)) n o g h = absurd (refused_or_goes bytes export words p (trapped c) g h)
one_answer bytes export words (Err (ends.Refused p)) (Err ends.FuelSpent) n o g h = absurd (refused_or_goes bytes export words p spent g h)
one_answer bytes export words (Err (ends.Refused p)) (Err ends.OutOfMemory) n o g h = absurd (o refl)
one_answer bytes export words (Err (ends.Trapped c)) (Ok j) n o g h = absurd (result_or_trap j.result j.used c (one_way bytes export words (answered j.result j.used) (trapped c) h g))
one_answer bytes export words (Err (ends.Trapped c)) (Err (ends.Refused q)) n o g h = absurd (refused_or_goes bytes export words q (trapped c) h g)
one_answer bytes export words (Err (ends.Trapped c)) (Err (ends.Trapped d)) n o g h = ap (λ (k : Cause). Err (ends.Trapped k)) (causes_alike c d (one_way bytes export words (trapped c) (trapped d) g h))
one_answer bytes export words (Err (ends.Trapped c)) (Err ends.FuelSpent) n o g h = absurd (trap_or_spent c (one_way bytes export words (trapped c) spent g h))
one_answer bytes export words (Err (ends.Trapped c)) (Err ends.OutOfMemory) n o g h = absurd (o refl)
one_answer bytes export words (Err ends.FuelSpent) (Ok j) n o g h = absurd (result_or_spent j.result j.used (one_way bytes export words (answered j.result j.used) spent h g))
one_answer bytes export words (Err ends.FuelSpent) (Err (ends.Refused q)) n o g h = absurd (refused_or_goes bytes export words q spent h g)
one_answer bytes export words (Err ends.FuelSpent) (Err (ends.Trapped d)) n o g h = absurd (trap_or_spent d (one_way bytes export words (trapped d) spent h g))
one_answer bytes export words (Err ends.FuelSpent) (Err ends.FuelSpent) n o g h = refl
one_answer bytes export words (Err ends.FuelSpent) (Err ends.OutOfMemory) n o g h = absurd (o refl)
one_answer bytes export words (Err ends.OutOfMemory) s n o g h = absurd (n refl)
