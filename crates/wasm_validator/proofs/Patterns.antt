-- What a pattern stands for, and that taking and giving by patterns is exact.
use Rattle.std.proofs.Common.{◌≡◌, Bool, true, false, List, [], ◌∷◌, ◌++◌, Option, Some, None, ◌↔◌, refl, sym, ap, subst, ◌∙◌, append_assoc}
use Rattle.std.proofs.lemmas.List.{append-nil}
use Rattle.wasm_syntax.specs.declared.types.ValueType.{ValueType}
use Rattle.wasm_syntax.specs.declared.types.ValueType.TheVariants.{I32, I64}
use Rattle.wasm_validator.specs.Checking.{and_then, Pattern, any_types, same_type, may_be, popped_any, taken_if, popped, all_popped, pushed_any, all_pushed, is_empty, may_end_with, joined, Rule, gives, drops, selects, leaves, selected, acted}

-- ---- answers that may not be there

abbrev pub OnSome : {A : Type 0} → Option A → (A → Type 0) → Type 0
OnSome None holds = ⊥
OnSome (Some x) holds = holds x

pub on_then : {A B : Type 0} (o : Option A) (f : A → Option B) (holds : B → Type 0) → OnSome (and_then o f) holds ↔ OnSome o (λ x. OnSome (f x) holds)
on_then None f holds = ((λ h. h), (λ h. h))
on_then (Some x) f holds = ((λ h. h), (λ h. h))

pub on_map : {A : Type 0} (o : Option A) (P Q : A → Type 0) → ((x : A) → P x → Q x) → OnSome o P → OnSome o Q
on_map None P Q f h = h
on_map (Some x) P Q f h = f x h

pub on_keep : {A : Type 0} (o : Option A) (C : Type 0) (P : A → Type 0) → ((x : A) → P x → C) → OnSome o P → C
on_keep None C P f h = absurd h
on_keep (Some x) C P f h = f x h

-- ---- what a pattern stands for

-- a type is one of those that this stands for
abbrev pub IsKnown : Option ValueType → ValueType → Type 0
IsKnown None t = Unit {0}
IsKnown (Some u) t = u ≡ t

abbrev pub Fits : List (Option ValueType) → Bool → List ValueType → Type 0
Fits [] true ts = Unit {0}
Fits [] false ts = ts ≡ []
Fits (k ∷ ks) f [] = ⊥
Fits (k ∷ ks) f (t ∷ ts) = IsKnown k t × Fits ks f ts

abbrev pub Stands : Pattern → List ValueType → Type 0
Stands p ts = Fits p.known p.free ts

pub same_type-refl : (t : ValueType) → same_type t t ≡ true
same_type-refl I32 = refl
same_type-refl I64 = refl

pub same_type-true : (t u : ValueType) → same_type t u ≡ true → t ≡ u
same_type-true I32 I32 e = refl
same_type-true I32 I64 e = absurd (cc)
same_type-true I64 I32 e = absurd (cc)
same_type-true I64 I64 e = refl

-- some stack fits
pub inhabited : (ks : List (Option ValueType)) (f : Bool) → (ts : List ValueType) × Fits ks f ts
inhabited [] true = ([], tt)
inhabited [] false = ([], refl)
inhabited (None ∷ ks) f = let r = inhabited ks f in (I32 ∷ r.0, (tt, r.1))
inhabited (Some t ∷ ks) f = let r = inhabited ks f in (t ∷ r.0, (refl, r.1))

-- ---- taking

pub popped_any-exact : (ks : List (Option ValueType)) (f : Bool) (t : ValueType) (below : List ValueType) →
    Fits ks f (t ∷ below) ↔ OnSome (popped_any (record { known = ks; free = f })) (λ top. IsKnown top.0 t × Stands top.1 below)
popped_any-exact [] true t below = ((λ h. (tt, tt)), (λ h. tt))
popped_any-exact [] false t below = ((λ h. absurd (cc)), (λ h. absurd h))
popped_any-exact (k ∷ ks) f t below = ((λ h. h), (λ h. h))

may_be-exact : (t : ValueType) (k : Option ValueType) (q : Pattern) (below : List ValueType) → (IsKnown k t × Stands q below) ↔ OnSome (taken_if (may_be t k) q) (λ r. Stands r below)
may_be-exact t None q below = ((λ h. h.1), (λ h. (tt, h)))
may_be-exact I32 (Some I32) q below = ((λ h. h.1), (λ h. (refl, h)))
may_be-exact I32 (Some I64) q below = ((λ h. let e : I64 ≡ I32 = h.0 in absurd (cc)), (λ h. absurd h))
may_be-exact I64 (Some I32) q below = ((λ h. let e : I32 ≡ I64 = h.0 in absurd (cc)), (λ h. absurd h))
may_be-exact I64 (Some I64) q below = ((λ h. h.1), (λ h. (refl, h)))

pub popped-exact : (t : ValueType) (p : Pattern) (below : List ValueType) → Stands p (t ∷ below) ↔ OnSome (popped t p) (λ q. Stands q below)
popped-exact t p below =
    let any = popped_any-exact p.known p.free t below in
    let then = on_then (popped_any p) (λ top. taken_if (may_be t top.0) top.1) (λ q. Stands q below) in (
      (λ h. then.1 (on_map (popped_any p) (λ top. IsKnown top.0 t × Stands top.1 below) (λ top. OnSome (taken_if (may_be t top.0) top.1) (λ q. Stands q below)) (λ top k. (may_be-exact t top.0 top.1 below).0 k) (any.0 h))),
      (λ h. any.1 (on_map (popped_any p) (λ top. OnSome (taken_if (may_be t top.0) top.1) (λ q. Stands q below)) (λ top. IsKnown top.0 t × Stands top.1 below) (λ top k. (may_be-exact t top.0 top.1 below).1 k) (then.0 h))),
    )

pub all_popped-exact : (ts : List ValueType) (p : Pattern) (below : List ValueType) → Stands p (ts ++ below) ↔ OnSome (all_popped ts p) (λ q. Stands q below)
all_popped-exact [] p below = ((λ h. h), (λ h. h))
all_popped-exact (t ∷ ts) p below =
    let one = popped-exact t p (ts ++ below) in
    let then = on_then (popped t p) (all_popped ts) (λ q. Stands q below) in (
      (λ h. then.1 (on_map (popped t p) (λ q. Stands q (ts ++ below)) (λ q. OnSome (all_popped ts q) (λ r. Stands r below)) (λ q k. (all_popped-exact ts q below).0 k) (one.0 h))),
      (λ h. one.1 (on_map (popped t p) (λ q. OnSome (all_popped ts q) (λ r. Stands r below)) (λ q. Stands q (ts ++ below)) (λ q k. (all_popped-exact ts q below).1 k) (then.0 h))),
    )

-- ---- giving

-- a stack that begins with these types, and whose rest the pattern stands for
pub record IsOn (us : List ValueType) (p : Pattern) (after : List ValueType) : Type 0 where
  pub below : List ValueType
  pub is : after ≡ us ++ below
  pub stands : Stands p below

pub all_pushed-to : (us : List ValueType) (p : Pattern) (below : List ValueType) → Stands p below → Stands (all_pushed us p) (us ++ below)
all_pushed-to [] p below h = h
all_pushed-to (u ∷ us) p below h = (refl, all_pushed-to us p below h)

pub all_pushed-from : (us : List ValueType) (p : Pattern) (after : List ValueType) → Stands (all_pushed us p) after → IsOn us p after
all_pushed-from [] p after h = record { below = after; is = refl; stands = h }
all_pushed-from (u ∷ us) p [] h = absurd h
all_pushed-from (u ∷ us) p (t ∷ after) h =
    let r = all_pushed-from us p after h.1 in
    let first : u ≡ t = h.0 in
    record { below = r.below; is = ap (λ x. x ∷ after) (sym first) ∙ ap (λ xs. u ∷ xs) r.is; stands = r.stands }

-- ---- exactly these types

empty-from : (q : Pattern) → is_empty q.known ≡ true → Stands q []
empty-from q e = from q.known q.free e
  where
    from : (ks : List (Option ValueType)) (f : Bool) → is_empty ks ≡ true → Fits ks f []
    from [] true e = tt
    from [] false e = refl
    from (k ∷ ks) f e = absurd (cc)

empty-to : (q : Pattern) → Stands q [] → is_empty q.known ≡ true
empty-to q h = to q.known q.free h
  where
    to : (ks : List (Option ValueType)) (f : Bool) → Fits ks f [] → is_empty ks ≡ true
    to [] f h = refl
    to (k ∷ ks) f h = absurd h

ends-to : (o : Option Pattern) → OnSome o (λ q. Stands q []) → elim o [ None ↦ false | Some q ↦ is_empty q.known ] ≡ true
ends-to None h = absurd h
ends-to (Some q) h = empty-to q h

ends-from : (o : Option Pattern) → elim o [ None ↦ false | Some q ↦ is_empty q.known ] ≡ true → OnSome o (λ q. Stands q [])
ends-from None e = absurd (cc)
ends-from (Some q) e = empty-from q e

pub may_end_with-to : (ts : List ValueType) (p : Pattern) → Stands p ts → may_end_with ts p ≡ true
may_end_with-to ts p h = ends-to (all_popped ts p) ((all_popped-exact ts p []).0 (subst (Stands p) (sym (append-nil ts)) h))

pub may_end_with-from : (ts : List ValueType) (p : Pattern) → may_end_with ts p ≡ true → Stands p ts
may_end_with-from ts p e = subst (Stands p) (append-nil ts) ((all_popped-exact ts p []).1 (ends-from (all_popped ts p) e))

-- ---- a step behind a step

pub bind_exact : {A B : Type 0} (X : Type 0) (o : Option A) (f : A → Option B) (P : A → Type 0) (Q : B → Type 0) → X ↔ OnSome o P → ((x : A) → P x ↔ OnSome (f x) Q) → X ↔ OnSome (and_then o f) Q
bind_exact X o f P Q h g = (
  (λ x. (on_then o f Q).1 (on_map o P (λ a. OnSome (f a) Q) (λ a k. (g a).0 k) (h.0 x))),
  (λ y. h.1 (on_map o (λ a. OnSome (f a) Q) P (λ a k. (g a).1 k) ((on_then o f Q).0 y))),
)

-- ---- rules

-- what a rule lets be taken and given
abbrev pub May : Rule → (takes gives : List ValueType) → Type 0
May (gives ts us) takes given = (takes ≡ ts) × (given ≡ us)
May drops takes given = (t : ValueType) × (takes ≡ t ∷ []) × (given ≡ [])
May selects takes given = (t : ValueType) × (takes ≡ I32 ∷ t ∷ t ∷ []) × (given ≡ t ∷ [])
May (leaves ts) takes given = (below : List ValueType) × (takes ≡ ts ++ below)

pub record Acts (r : Rule) (before after : List ValueType) : Type 0 where
  pub takes : List ValueType
  pub given : List ValueType
  pub below : List ValueType
  pub may : May r takes given
  pub from : before ≡ takes ++ below
  pub to : after ≡ given ++ below

-- there is a stack before
pub record Came (r : Rule) (p : Pattern) (after : List ValueType) : Type 0 where
  pub before : List ValueType
  pub stands : Stands p before
  pub acts : Acts r before after

joined-exact : (S : Type 0) (a b : Option ValueType) (t : ValueType) → (IsKnown a t × IsKnown b t × S) ↔ OnSome (joined a b) (λ k. IsKnown k t × S)
joined-exact S None b t = ((λ h. (h.1, h.2)), (λ h. (tt, h.0, h.1)))
joined-exact S (Some u) None t = ((λ h. (h.0, h.2)), (λ h. (h.0, tt, h.1)))
joined-exact S (Some I32) (Some I32) t = ((λ h. (h.0, h.2)), (λ h. (h.0, h.0, h.1)))
joined-exact S (Some I32) (Some I64) t = ((λ h. let a = h.0 in let b = h.1 in let e : I32 ≡ I64 = a ∙ sym b in absurd (cc)), (λ h. absurd h))
joined-exact S (Some I64) (Some I32) t = ((λ h. let a = h.0 in let b = h.1 in let e : I64 ≡ I32 = a ∙ sym b in absurd (cc)), (λ h. absurd h))
joined-exact S (Some I64) (Some I64) t = ((λ h. (h.0, h.2)), (λ h. (h.0, h.0, h.1)))

-- a choice between two of one type
selected-exact : (p : Pattern) (t : ValueType) (below : List ValueType) → Stands p (I32 ∷ t ∷ t ∷ below) ↔ OnSome (selected p) (λ q. Stands q (t ∷ below))
selected-exact p t below =
    bind_exact (Stands p (I32 ∷ t ∷ t ∷ below)) (popped I32 p) _ (λ a. Stands a (t ∷ t ∷ below)) (λ q. Stands q (t ∷ below)) (popped-exact I32 p (t ∷ t ∷ below)) (λ a.
    bind_exact (Stands a (t ∷ t ∷ below)) (popped_any a) _ (λ first. IsKnown first.0 t × Stands first.1 (t ∷ below)) (λ q. Stands q (t ∷ below)) (popped_any-exact a.known a.free t (t ∷ below)) (λ first.
    bind_exact (IsKnown first.0 t × Stands first.1 (t ∷ below)) (popped_any first.1) _ (λ second. IsKnown first.0 t × IsKnown second.0 t × Stands second.1 below) (λ q. Stands q (t ∷ below))
    (let e = popped_any-exact first.1.known first.1.free t below in (
      (λ h. on_map (popped_any first.1) (λ top. IsKnown top.0 t × Stands top.1 below) (λ second. IsKnown first.0 t × IsKnown second.0 t × Stands second.1 below) (λ second k. (h.0, k.0, k.1)) (e.0 h.1)),
      (λ h. (on_keep (popped_any first.1) (IsKnown first.0 t) (λ second. IsKnown first.0 t × IsKnown second.0 t × Stands second.1 below) (λ second k. k.0) h, e.1 (on_map (popped_any first.1) (λ second. IsKnown first.0 t × IsKnown second.0 t × Stands second.1 below) (λ top. IsKnown top.0 t × Stands top.1 below) (λ second k. (k.1, k.2)) h))),
    ))
    (λ second. bind_exact (IsKnown first.0 t × IsKnown second.0 t × Stands second.1 below) (joined first.0 second.0) _ (λ k. IsKnown k t × Stands second.1 below) (λ q. Stands q (t ∷ below)) (joined-exact (Stands second.1 below) first.0 second.0 t) (λ k. ((λ h. h), (λ h. h))))))

pub acted-to : (r : Rule) (p : Pattern) (before after : List ValueType) → Stands p before → Acts r before after → OnSome (acted r p) (λ q. Stands q after)
acted-to (gives ts us) p before after h a =
    let taken : before ≡ ts ++ a.below = a.from ∙ ap (λ x. x ++ a.below) a.may.0 in
    let given : after ≡ us ++ a.below = a.to ∙ ap (λ x. x ++ a.below) a.may.1 in
    let popped = (all_popped-exact ts p a.below).0 (subst (Stands p) taken h) in
    (on_then (all_popped ts p) (λ q. Some (all_pushed us q)) (λ q. Stands q after)).1
    (on_map (all_popped ts p) (λ q. Stands q a.below) (λ q. Stands (all_pushed us q) after) (λ q k. subst (Stands (all_pushed us q)) (sym given) (all_pushed-to us q a.below k)) popped)
acted-to drops p before after h a =
    let taken : before ≡ a.may.0 ∷ a.below = a.from ∙ ap (λ x. x ++ a.below) a.may.1 in
    let given : after ≡ a.below = a.to ∙ ap (λ x. x ++ a.below) a.may.2 in
    let popped = (popped_any-exact p.known p.free a.may.0 a.below).0 (subst (Stands p) taken h) in
    (on_then (popped_any p) (λ top. Some top.1) (λ q. Stands q after)).1
    (on_map (popped_any p) (λ top. IsKnown top.0 a.may.0 × Stands top.1 a.below) (λ top. Stands top.1 after) (λ top k. subst (Stands top.1) (sym given) k.1) popped)
acted-to selects p before after h a =
    let taken : before ≡ I32 ∷ a.may.0 ∷ a.may.0 ∷ a.below = a.from ∙ ap (λ x. x ++ a.below) a.may.1 in
    let given : after ≡ a.may.0 ∷ a.below = a.to ∙ ap (λ x. x ++ a.below) a.may.2 in
    subst (λ (x : List ValueType). OnSome (selected p) (λ q. Stands q x)) (sym given) ((selected-exact p a.may.0 a.below).0 (subst (Stands p) taken h))
acted-to (leaves ts) p before after h a =
    let taken : before ≡ ts ++ (a.may.0 ++ a.below) = a.from ∙ ap (λ x. x ++ a.below) a.may.1 ∙ append_assoc ts a.may.0 a.below in
    let popped = (all_popped-exact ts p (a.may.0 ++ a.below)).0 (subst (Stands p) taken h) in
    (on_then (all_popped ts p) (λ q. Some any_types) (λ q. Stands q after)).1
    (on_map (all_popped ts p) (λ q. Stands q (a.may.0 ++ a.below)) (λ q. Unit {0}) (λ q k. tt) popped)

-- a value that is there
pub IsThere : {A : Type 0} (o : Option A) (P : A → Type 0) → OnSome o P → (x : A) × (o ≡ Some x) × P x
IsThere None P h = absurd h
IsThere (Some x) P h = (x, refl, h)

at_once : {A : Type 0} (o : Option A) (x : A) (P : A → Type 0) → o ≡ Some x → P x → OnSome o P
at_once o x P e h = subst (λ q. OnSome q P) (sym e) h

-- a stack whose topmost type is one of those
some_type : (k : Option ValueType) → (t : ValueType) × IsKnown k t
some_type None = (I32, tt)
some_type (Some t) = (t, refl)

-- given what stands afterwards, what stood there before
selected-from : (p : Pattern) (after : List ValueType) → OnSome (selected p) (λ q. Stands q after) → (t : ValueType) × (below : List ValueType) × (after ≡ t ∷ below)
selected-from p after h =
    let a = (on_then (popped I32 p) _ (λ q. Stands q after)).0 h in
    let b = IsThere (popped I32 p) _ a in
    let c = IsThere (popped_any b.0) _ ((on_then (popped_any b.0) _ (λ q. Stands q after)).0 b.2) in
    let d = IsThere (popped_any c.0.1) _ ((on_then (popped_any c.0.1) _ (λ q. Stands q after)).0 c.2) in
    let e = IsThere (joined c.0.0 d.0.0) _ ((on_then (joined c.0.0 d.0.0) _ (λ q. Stands q after)).0 d.2) in
    cut e.0 d.0.1 after e.2
  where
    cut : (k : Option ValueType) (q : Pattern) (after : List ValueType) → Stands (pushed_any k q) after → (t : ValueType) × (below : List ValueType) × (after ≡ t ∷ below)
    cut k q [] h = absurd h
    cut k q (t ∷ below) h = (t, below, refl)

pub acted-from : (r : Rule) (p : Pattern) (after : List ValueType) → OnSome (acted r p) (λ q. Stands q after) → Came r p after
acted-from (gives ts us) p after h =
    let there = IsThere (all_popped ts p) _ ((on_then (all_popped ts p) (λ q. Some (all_pushed us q)) (λ q. Stands q after)).0 h) in
    let on = all_pushed-from us there.0 after there.2 in
    record {
      before = ts ++ on.below;
      stands = (all_popped-exact ts p on.below).1 (at_once (all_popped ts p) there.0 (λ q. Stands q on.below) there.1 on.stands);
      acts = record { takes = ts; given = us; below = on.below; may = (refl, refl); from = refl; to = on.is };
    }
acted-from drops p after h =
    let there = IsThere (popped_any p) _ ((on_then (popped_any p) (λ top. Some top.1) (λ q. Stands q after)).0 h) in
    let one = some_type there.0.0 in
    record {
      before = one.0 ∷ after;
      stands = (popped_any-exact p.known p.free one.0 after).1 (at_once (popped_any p) there.0 (λ top. IsKnown top.0 one.0 × Stands top.1 after) there.1 (one.1, there.2));
      acts = record { takes = one.0 ∷ []; given = []; below = after; may = (one.0, refl, refl); from = refl; to = refl };
    }
acted-from selects p after h =
    let there = selected-from p after h in
    record {
      before = I32 ∷ there.0 ∷ there.0 ∷ there.1;
      stands = (selected-exact p there.0 there.1).1 (subst (λ (x : List ValueType). OnSome (selected p) (λ q. Stands q x)) there.2 h);
      acts = record { takes = I32 ∷ there.0 ∷ there.0 ∷ []; given = there.0 ∷ []; below = there.1; may = (there.0, refl, refl); from = refl; to = there.2 };
    }
acted-from (leaves ts) p after h =
    let there = IsThere (all_popped ts p) _ ((on_then (all_popped ts p) (λ q. Some any_types) (λ q. Stands q after)).0 h) in
    let some = inhabited there.0.known there.0.free in
    record {
      before = ts ++ some.0;
      stands = (all_popped-exact ts p some.0).1 (at_once (all_popped ts p) there.0 (λ q. Stands q some.0) there.1 some.1);
      acts = record { takes = ts ++ some.0; given = after; below = []; may = (some.0, refl); from = sym (append-nil (ts ++ some.0)); to = sym (append-nil after) };
    }
