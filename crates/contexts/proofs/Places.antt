-- Members by their places, and changes of a part.
use Rattle.std.proofs.Common.{◌≡◌, ◌<◌, ◌≤◌, ℕ, zero, suc, ◌==◌, Bool, true, false, cond, List, [], ◌∷◌, ◌++◌, length, Option, None, Some, refl, sym, ap, ◌∙◌, arith}
use Rattle.std.specs.Prelude.{slice_get, slice_set, slice_index_or}
use Rattle.std.specs.List.{position, position_or_len, remove}
use Rattle.std.specs.Option.{option_map}
use Rattle.std.proofs.lemmas.List.Folds.{find_at}
use Rattle.std.proofs.lemmas.Bool.{ltb-false}
use Rattle.std.proofs.lemmas.List.Quantifiers.{position-Some}
use Rattle.contexts.specs.Keyed.{first_of_number, with_first_changed, without_first}
use Rattle.contexts.specs.declared.parts.Own.{Own}
use Rattle.contexts.specs.declared.parts.ExchangeView.{ExchangeView}
use Rattle.contexts.specs.declared.parts.Tick.{Tick}
use Rattle.contexts.specs.declared.parts.Context.{Context}
use Rattle.contexts.specs.declared.parts.ExchangeEntry.{ExchangeEntry}
use Rattle.contexts.specs.declared.parts.VmContexts.{VmContexts}
use Rattle.contexts.specs.declared.parts.Contexts.{Contexts}
use Rattle.contexts.specs.Reached.{no_changes, vm_in, no_vm, context_no, context_in, exchange_of, effective_of, exchange_at, view_at, view_in, with_view, contexts_after, exchanges_by, exchanges_after, vm_after, put, with_own, with_tick, reach_by, seen_of, seen}
use Rattle.contexts.specs.Lending.{own_put_of, exchange_put, exchange_put_at}

pub none_is : {A : Type 0} {a : A} → None ≡ Some a → ⊥
none_is same = cc

module _ {A : Type 0} (number : A → ℕ) (k : ℕ) (d : A) where
  first_found : (i : ℕ) (xs : List A) → i < length xs → (number (slice_index_or xs i d) == k) ≡ true → ((j : ℕ) → j < i → (number (slice_index_or xs j d) == k) ≡ false) → first_of_number number k xs ≡ Some (slice_index_or xs i d)
  first_found i [] within is before = absurd (omega (arith, within))
  first_found zero (x ∷ xs) within is before = ap (λ b. cond b (Some x) (first_of_number number k xs)) is
  first_found (suc i) (x ∷ xs) within is before =
      ap (λ b. cond b (Some x) (first_of_number number k xs)) (before 0 (omega arith)) ∙ first_found i xs (omega (arith, within)) is (λ j less. before (suc j) (omega (arith, less)))

  first_changed : (f : A → A) (i : ℕ) (xs : List A) → i < length xs → (number (slice_index_or xs i d) == k) ≡ true → ((j : ℕ) → j < i → (number (slice_index_or xs j d) == k) ≡ false) → with_first_changed number k f xs ≡ slice_set xs i (f (slice_index_or xs i d))
  first_changed f i [] within is before = absurd (omega (arith, within))
  first_changed f zero (x ∷ xs) within is before = ap (λ b. cond b (f x ∷ xs) (x ∷ with_first_changed number k f xs)) is
  first_changed f (suc i) (x ∷ xs) within is before =
      ap (λ b. cond b (f x ∷ xs) (x ∷ with_first_changed number k f xs)) (before 0 (omega arith)) ∙ ap (λ ys. x ∷ ys) (first_changed f i xs (omega (arith, within)) is (λ j less. before (suc j) (omega (arith, less))))

  pub found_at : (i : ℕ) (xs : List A) → position (λ x. number x == k) xs ≡ Some i → first_of_number number k xs ≡ Some (slice_index_or xs i d)
  found_at i xs is = let h = position-Some (λ x. number x == k) xs i d is in first_found i xs h.0 h.1 h.2

  pub changed_at : (f : A → A) (i : ℕ) (xs : List A) → position (λ x. number x == k) xs ≡ Some i → with_first_changed number k f xs ≡ slice_set xs i (f (slice_index_or xs i d))
  changed_at f i xs is = let h = position-Some (λ x. number x == k) xs i d is in first_changed f i xs h.0 h.1 h.2

lt_false : (b : Bool) (n : ℕ) → cond b (Some n) None ≡ None → b ≡ false
lt_false true n is = cc
lt_false false n is = refl

beyond : {A : Type 0} (xs : List A) (i : ℕ) → length xs ≤ i → slice_get xs i ≡ None
beyond [] i h = refl
beyond (x ∷ xs) zero h = absurd (omega (arith, h))
beyond (x ∷ xs) (suc i) h = beyond xs i (omega (arith, h))

-- ---- members that are taken out, or are not there

module _ {A : Type 0} (number : A → ℕ) (k : ℕ) where
  first_removed : (d : A) (i : ℕ) (xs : List A) → i < length xs → (number (slice_index_or xs i d) == k) ≡ true → ((j : ℕ) → j < i → (number (slice_index_or xs j d) == k) ≡ false) → without_first number k xs ≡ remove xs i
  first_removed d i [] within is before = absurd (omega (arith, within))
  first_removed d zero (x ∷ xs) within is before = ap (λ b. cond b xs (x ∷ without_first number k xs)) is
  first_removed d (suc i) (x ∷ xs) within is before =
      ap (λ b. cond b xs (x ∷ without_first number k xs)) (before 0 (omega arith)) ∙ ap (λ ys. x ∷ ys) (first_removed d i xs (omega (arith, within)) is (λ j less. before (suc j) (omega (arith, less))))

  removed_by : (i : ℕ) (xs : List A) → position (λ x. number x == k) xs ≡ Some i → without_first number k xs ≡ remove xs i
  removed_by i [] is = absurd (none_is is)
  removed_by i (x ∷ xs) is = let h = position-Some (λ y. number y == k) (x ∷ xs) i x is in first_removed x i (x ∷ xs) h.0 h.1 h.2

  not_found : (xs : List A) → position (λ x. number x == k) xs ≡ None → first_of_number number k xs ≡ None
  not_found xs is = let p : A → Bool = λ x. number x == k in find_at p xs ∙ beyond xs (position_or_len p xs) (ltb-false _ _ (lt_false _ _ is))

  same_at : (f : A → A) (b : Bool) (x : A) (xs : List A) → cond b (Some x) (first_of_number number k xs) ≡ None → (first_of_number number k xs ≡ None → with_first_changed number k f xs ≡ xs) → cond b (f x ∷ xs) (x ∷ with_first_changed number k f xs) ≡ x ∷ xs
  same_at f true x xs is ih = absurd (none_is (sym is))
  same_at f false x xs is ih = ap (λ ys. x ∷ ys) (ih is)

  unchanged : (f : A → A) (xs : List A) → first_of_number number k xs ≡ None → with_first_changed number k f xs ≡ xs
  unchanged f [] is = refl
  unchanged f (x ∷ xs) is = same_at f (number x == k) x xs is (unchanged f xs)

  left_at : (b : Bool) (x : A) (xs : List A) → cond b (Some x) (first_of_number number k xs) ≡ None → (first_of_number number k xs ≡ None → without_first number k xs ≡ xs) → cond b xs (x ∷ without_first number k xs) ≡ x ∷ xs
  left_at true x xs is ih = absurd (none_is (sym is))
  left_at false x xs is ih = ap (λ ys. x ∷ ys) (ih is)

  unremoved : (xs : List A) → first_of_number number k xs ≡ None → without_first number k xs ≡ xs
  unremoved [] is = refl
  unremoved (x ∷ xs) is = left_at (number x == k) x xs is (unremoved xs)

  pub removed_at : (i : ℕ) (xs ys : List A) → position (λ x. number x == k) xs ≡ Some i → ys ≡ remove xs i → ys ≡ without_first number k xs
  removed_at i xs ys is out = out ∙ sym (removed_by i xs is)

  pub removed_none : (xs : List A) → position (λ x. number x == k) xs ≡ None → xs ≡ without_first number k xs
  removed_none xs is = sym (unremoved xs (not_found xs is))

  pub changed_none : (f : A → A) (xs : List A) → position (λ x. number x == k) xs ≡ None → with_first_changed number k f xs ≡ xs
  changed_none f xs is = unchanged f xs (not_found xs is)

-- where nothing of the exchange is changed, no exchange is
no_exchange : (o : Option ℕ) (xs : List (Option ExchangeEntry)) (s : Own) → exchanges_by (record no_changes { own = Some s }) o xs ≡ xs
no_exchange None xs s = refl
no_exchange (Some n) xs s = refl

pub none_of : (o : Option Context) (xs : List (Option ExchangeEntry)) (s : Own) → exchanges_after (record no_changes { own = Some s }) o xs ≡ xs
none_of None xs s = refl
none_of (Some c) xs s = no_exchange c.exchange xs s

pub nothing_behind : {A : Type 0} (xs : List A) → xs ++ [] ≡ xs
nothing_behind [] = refl
nothing_behind (x ∷ xs) = ap (λ ys. x ∷ ys) (nothing_behind xs)

-- at a place inside the default does not count
pub any_default : {A : Type 0} (xs : List A) (i : ℕ) (d e : A) → i < length xs → slice_index_or xs i d ≡ slice_index_or xs i e
any_default [] i d e h = absurd (omega (arith, h))
any_default (x ∷ xs) zero d e h = refl
any_default (x ∷ xs) (suc i) d e h = any_default xs i d e (omega (arith, h))

pub set_same : {A : Type 0} (xs : List A) (i : ℕ) (d : A) → i < length xs → slice_set xs i (slice_index_or xs i d) ≡ xs
set_same [] i d h = absurd (omega (arith, h))
set_same (x ∷ xs) zero d h = refl
set_same (x ∷ xs) (suc i) d h = ap (λ ys. x ∷ ys) (set_same xs i d (omega (arith, h)))

-- ---- what a context has for itself: the VM v1 stands at the place n, and the context c1 at the place i in it

module _ (h : Contexts) (vm e n i : ℕ) (same : n ≡ vm) (v1 : VmContexts) (within : vm < length h.vms) (v_is : v1 ≡ slice_index_or h.vms n v1) where
  vm_found : v1 ≡ vm_in h vm
  vm_found = v_is ∙ ap (λ m. slice_index_or h.vms m v1) same ∙ any_default h.vms vm v1 no_vm within

  -- a VM that is put where it was
  pub vms_kept : record h { vms = slice_set h.vms n v1 } ≡ h
  vms_kept =
      ap (λ (w : VmContexts). record h { vms = slice_set h.vms n w }) v_is ∙ ap (λ (ws : List VmContexts). record h { vms = ws }) (set_same h.vms n v1 (omega (arith, within, same)))

  module _ (c1 : Context) (at : position (λ (c : Context). c.id == e) v1.contexts ≡ Some i) (c_is : c1 ≡ slice_index_or v1.contexts i c1) where
    there : first_of_number context_no e v1.contexts ≡ Some c1
    there = found_at context_no e c1 i v1.contexts at ∙ ap Some (sym c_is)

    pub own_is : (z : Own) → record h { vms = slice_set h.vms n (record v1 { contexts = slice_set v1.contexts i (record c1 { own = z }) }) } ≡ own_put_of h vm e z
    own_is z =
        let s = record no_changes { own = Some z } in
        let now : with_first_changed context_no e (with_own z) v1.contexts ≡ slice_set v1.contexts i (record c1 { own = z }) = changed_at context_no e c1 (with_own z) i v1.contexts at ∙ ap (λ (c : Context). slice_set v1.contexts i (record c { own = z })) (sym c_is) in
        (λ j. record h { vms = slice_set h.vms (same j) (record v1 { contexts = sym now j }); effects = sym (nothing_behind h.effects) j })
        ∙ (λ j. record h { vms = slice_set h.vms vm (vm_after s e (sym there j) v1); exchanges = sym (none_of (first_of_number context_no e v1.contexts) h.exchanges z) j; effects = h.effects ++ [] })
        ∙ (λ j. record h { vms = slice_set h.vms vm (vm_after s e (first_of_number context_no e (vm_found j).contexts) (vm_found j)); exchanges = exchanges_after s (first_of_number context_no e (vm_found j).contexts) h.exchanges; effects = h.effects ++ [] })

    pub own_seen : Some c1.own ≡ (seen_of h vm e).reach.own
    own_seen = sym (ap (λ (o : Option Context). (reach_by h (vm_in h vm) o).own) (sym (ap (λ (w : VmContexts). first_of_number context_no e w.contexts) vm_found) ∙ there))

  pub none_seen : position (λ (c : Context). c.id == e) v1.contexts ≡ None → None ≡ (seen_of h vm e).reach.own
  none_seen at =
      let p = λ (c : Context). c.id == e in
      let gone : first_of_number context_no e v1.contexts ≡ None = find_at p v1.contexts ∙ beyond v1.contexts (position_or_len p v1.contexts) (ltb-false _ _ (lt_false _ _ at)) in
      sym (ap (λ (o : Option Context). (reach_by h (vm_in h vm) o).own) (sym (ap (λ (w : VmContexts). first_of_number context_no e w.contexts) vm_found) ∙ gone))

-- ---- what an exchange has

no_contexts : (e : ℕ) (o : Option Context) (cs : List Context) (z : ExchangeView) → contexts_after (record no_changes { exchange = Some z }) e o cs ≡ cs
no_contexts e None cs z = refl
no_contexts e (Some c) cs z = refl

exchanges_are : (o : Option Context) (n : ℕ) (xs : List (Option ExchangeEntry)) (z : ExchangeView) → exchange_of o ≡ Some n →
    exchanges_after (record no_changes { exchange = Some z }) o xs ≡ slice_set xs n (option_map (with_view z) (exchange_at xs n))
exchanges_are None n xs z is = absurd (none_is is)
exchanges_are (Some c) n xs z is = ap (λ m. exchanges_by (record no_changes { exchange = Some z }) m xs) is

module _ (h : Contexts) (vm n : ℕ) (within : vm < length h.vms) (is : exchange_of (context_in h vm (effective_of h vm)) ≡ Some n) where
  abbrev o : Option Context
  o = context_in h vm (effective_of h vm)

  put_exchange : (z : ExchangeView) → exchange_put h vm z ≡ record h { exchanges = slice_set h.exchanges n (option_map (with_view z) (exchange_at h.exchanges n)) }
  put_exchange z =
      let v = vm_in h vm in
      (λ j. record h {
        vms = slice_set h.vms vm (record v { contexts = no_contexts v.effective o v.contexts z j });
        exchanges = exchanges_are o n h.exchanges z is j;
        effects = nothing_behind h.effects j;
      })
      ∙ (λ j. record h { vms = set_same h.vms vm no_vm within j; exchanges = slice_set h.exchanges n (option_map (with_view z) (exchange_at h.exchanges n)) })

  view_by : (p : Option Context) → exchange_of p ≡ Some n → (reach_by h (vm_in h vm) p).exchange ≡ view_at h.exchanges n
  view_by None same = absurd (none_is same)
  view_by (Some c) same = ap (view_in h.exchanges) same

  pub exchange_seen : (seen h vm).reach.exchange ≡ view_at h.exchanges n
  exchange_seen = view_by o is

  pub exchange_put_same : exchange_put_at h n ≡ exchange_put h vm
  exchange_put_same = sym (λ j z. put_exchange z j)

-- ---- the tick of a root

quiet_exchange : (o : Option ℕ) (xs : List (Option ExchangeEntry)) (t : Option Tick) → exchanges_by (record no_changes { tick = Some t }) o xs ≡ xs
quiet_exchange None xs t = refl
quiet_exchange (Some n) xs t = refl

quiet_exchanges : (o : Option Context) (xs : List (Option ExchangeEntry)) (t : Option Tick) → exchanges_after (record no_changes { tick = Some t }) o xs ≡ xs
quiet_exchanges None xs t = refl
quiet_exchanges (Some c) xs t = quiet_exchange c.exchange xs t

pub from_some : {A : Type 0} {a b : A} → Some a ≡ Some b → a ≡ b
from_some same = cc

module _ (h : Contexts) (vm n r : ℕ) (same : n ≡ vm) (v1 : VmContexts) (within : vm < length h.vms) (v_is : v1 ≡ slice_index_or h.vms n v1) (rooted : (seen h vm).reach.root ≡ Some r) (t : Option Tick) where
  contexts_by_root : (o : Option Context) (v : VmContexts) (cs : List Context) → (reach_by h v o).root ≡ Some r → contexts_after (record no_changes { tick = Some t }) v.effective o cs ≡ with_first_changed context_no r (with_tick t) cs
  contexts_by_root None v cs is = absurd (none_is is)
  contexts_by_root (Some c) v cs is = ap (λ k. with_first_changed context_no k (with_tick t) cs) (from_some is)

  put_tick : put (record no_changes { tick = Some t }) vm h ≡ record h { vms = slice_set h.vms vm (record (vm_in h vm) { contexts = with_first_changed context_no r (with_tick t) (vm_in h vm).contexts }) }
  put_tick =
      let v = vm_in h vm in
      let o = context_in h vm v.effective in
      (λ j. record h { vms = slice_set h.vms vm (record v { contexts = contexts_by_root o v v.contexts rooted j }); exchanges = quiet_exchanges o h.exchanges t j; effects = nothing_behind h.effects j })

  v_found : v1 ≡ vm_in h vm
  v_found = vm_found h vm 0 n 0 same v1 within v_is

  put_there : record h { vms = slice_set h.vms n (record v1 { contexts = with_first_changed context_no r (with_tick t) v1.contexts }) } ≡ put (record no_changes { tick = Some t }) vm h
  put_there =
      (λ j. record h { vms = slice_set h.vms (same j) (record (v_found j) { contexts = with_first_changed context_no r (with_tick t) (v_found j).contexts }) })
      ∙ sym put_tick

  pub tick_is : (i : ℕ) (c1 : Context) → position (λ (c : Context). c.id == r) v1.contexts ≡ Some i → c1 ≡ slice_index_or v1.contexts i c1 →
      record h { vms = slice_set h.vms n (record v1 { contexts = slice_set v1.contexts i (record c1 { tick = t }) }) } ≡ put (record no_changes { tick = Some t }) vm h
  tick_is i c1 at c_is =
      let now : with_first_changed context_no r (with_tick t) v1.contexts ≡ slice_set v1.contexts i (record c1 { tick = t }) = changed_at context_no r c1 (with_tick t) i v1.contexts at ∙ ap (λ (c : Context). slice_set v1.contexts i (record c { tick = t })) (sym c_is) in
      (λ j. record h { vms = slice_set h.vms n (record v1 { contexts = sym now j }) }) ∙ put_there

  pub tick_gone : position (λ (c : Context). c.id == r) v1.contexts ≡ None → record h { vms = slice_set h.vms n v1 } ≡ put (record no_changes { tick = Some t }) vm h
  tick_gone at =
      (λ j. record h { vms = slice_set h.vms n (record v1 { contexts = sym (changed_none context_no r (with_tick t) v1.contexts at) j }) }) ∙ put_there
