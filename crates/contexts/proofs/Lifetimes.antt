-- Contexts that are made and taken away: proofs.
use Rattle.std.proofs.Common.{◌≡◌, ◌<◌, ◌≤◌, ℕ, zero, suc, ◌+◌, ◌==◌, Bool, true, false, cond, List, [], ◌∷◌, ◌++◌, length, map, Option, None, Some, refl, sym, ap, ◌∙◌, subst, eqb-true, ne_eqb, eq-eqb, length-set, get_or-set_same, get_or-set_other, ⊎_elim, arith}
use Rattle.std.specs.Prelude.{slice_set, slice_index_or, not, ◌&&◌, ◌||◌, if◌then◌else◌}
use Rattle.std.specs.Option.{option_map}
use Rattle.std.specs.List.{list_any}
use Rattle.std.proofs.lemmas.Bool.{cases_eq}
use Rattle.contexts.specs.declared.parts.Context.{Context}
use Rattle.contexts.specs.declared.parts.ExchangeView.{ExchangeView}
use Rattle.contexts.specs.declared.parts.ExchangeEntry.{ExchangeEntry}
use Rattle.contexts.specs.declared.parts.VmContexts.{VmContexts}
use Rattle.contexts.specs.declared.parts.Contexts.{Contexts}
use Rattle.contexts.specs.Keyed.{first_of_number, without_first}
use Rattle.contexts.specs.Reached.{no_vm, vm_in, context_in, context_no, exchange_at, view_at, view_in, exchange_of}
use Rattle.contexts.specs.Creating.{next_id, root_context, stream_context, root_created, stream_created, plugin_at, open_place, with_context, without_id, without_context, refers_to, is_referred, has_ended, freed, freed_of, delete_id, end_exchange, ended_one}
use Rattle.contexts.specs.CreatingLaws.{AreDrawn, IdsAreDrawn, IsOtherContext, CreatesOne, DeletesOne, EndsOne, ended_view}
use Rattle.contexts.proofs.Places.{none_is, from_some}

-- ---- ids in a list

-- an id past the last is none's
fresh_at : (b : Bool) (c : Context) (cs : List Context) (k : ℕ) → (c.id == k) ≡ b → (c.id ≡ k → ⊥) → first_of_number context_no k cs ≡ None → cond b (Some c) (first_of_number context_no k cs) ≡ None
fresh_at true c cs k is apart ih = absurd (apart (eqb-true c.id k is))
fresh_at false c cs k is apart ih = ih

fresh : (last : ℕ) (cs : List Context) (k : ℕ) → last < k → AreDrawn last cs → first_of_number context_no k cs ≡ None
fresh last [] k past drawn = refl
fresh last (c ∷ cs) k past drawn = fresh_at (c.id == k) c cs k refl (λ same. absurd (omega (arith, past, drawn.0, same))) (fresh last cs k past drawn.2)

found_last : (cs : List Context) (c : Context) (k : ℕ) → c.id ≡ k → first_of_number context_no k cs ≡ None → first_of_number context_no k (cs ++ c ∷ []) ≡ Some c
found_last [] c k is none = ap (λ b. cond b (Some c) None) (ap (λ n. n == k) is ∙ eq-eqb k k refl)
found_last (x ∷ cs) c k is none = by_id (found_last cs c k is) (x.id == k) none
  where
    by_id : (first_of_number context_no k cs ≡ None → first_of_number context_no k (cs ++ c ∷ []) ≡ Some c) → (b : Bool) → cond b (Some x) (first_of_number context_no k cs) ≡ None → cond b (Some x) (first_of_number context_no k (cs ++ c ∷ [])) ≡ Some c
    by_id ih true gone = absurd (none_is (sym gone))
    by_id ih false gone = ih gone

found_before : (cs : List Context) (c : Context) (k : ℕ) → (c.id ≡ k → ⊥) → first_of_number context_no k (cs ++ c ∷ []) ≡ first_of_number context_no k cs
found_before [] c k apart = ap (λ b. cond b (Some c) None) (ne_eqb c.id k apart)
found_before (x ∷ cs) c k apart = ap (λ o. cond (x.id == k) (Some x) o) (found_before cs c k apart)

drawn_more : (last : ℕ) (cs : List Context) (c : Context) → c.id ≡ last + 1 → AreDrawn last cs → AreDrawn (last + 1) (cs ++ c ∷ [])
drawn_more last [] c is drawn = (omega (arith, is), refl, tt)
drawn_more last (x ∷ cs) c is drawn =
    (omega (arith, drawn.0), found_before cs c x.id (λ same. absurd (omega (arith, is, same, drawn.0))) ∙ drawn.1, drawn_more last cs c is drawn.2)

removed_other : (cs : List Context) (id k : ℕ) → (k ≡ id → ⊥) → first_of_number context_no k (without_first context_no id cs) ≡ first_of_number context_no k cs
removed_other [] id k apart = refl
removed_other (x ∷ cs) id k apart = by_id (removed_other cs id k apart) (x.id == id) refl
  where
    by_id : first_of_number context_no k (without_first context_no id cs) ≡ first_of_number context_no k cs → (b : Bool) → (x.id == id) ≡ b → first_of_number context_no k (cond b cs (x ∷ without_first context_no id cs)) ≡ cond (x.id == k) (Some x) (first_of_number context_no k cs)
    by_id ih true same = sym (ap (λ b. cond b (Some x) (first_of_number context_no k cs)) (ne_eqb x.id k (λ is. apart (sym is ∙ eqb-true x.id id same))))
    by_id ih false same = ap (λ o. cond (x.id == k) (Some x) o) ih

removed_gone : (last : ℕ) (cs : List Context) (id : ℕ) → AreDrawn last cs → first_of_number context_no id (without_first context_no id cs) ≡ None
removed_gone last [] id drawn = refl
removed_gone last (x ∷ cs) id drawn = by_id (removed_gone last cs id drawn.2) (x.id == id) refl
  where
    by_id : first_of_number context_no id (without_first context_no id cs) ≡ None → (b : Bool) → (x.id == id) ≡ b → first_of_number context_no id (cond b cs (x ∷ without_first context_no id cs)) ≡ None
    by_id ih true same = ap (λ k. first_of_number context_no k cs) (sym (eqb-true x.id id same)) ∙ drawn.1
    by_id ih false same = ap (λ b. cond b (Some x) (first_of_number context_no id (without_first context_no id cs))) same ∙ ih

none_removed : (cs : List Context) (id k : ℕ) → first_of_number context_no k cs ≡ None → first_of_number context_no k (without_first context_no id cs) ≡ None
none_removed [] id k none = refl
none_removed (x ∷ cs) id k none = by_k (none_removed cs id k) (x.id == k) refl none
  where
    by_id : first_of_number context_no k cs ≡ None → first_of_number context_no k (without_first context_no id cs) ≡ None → (x.id == k) ≡ false → (b : Bool) → first_of_number context_no k (cond b cs (x ∷ without_first context_no id cs)) ≡ None
    by_id gone later same true = gone
    by_id gone later same false = ap (λ b. cond b (Some x) (first_of_number context_no k (without_first context_no id cs))) same ∙ later

    by_k : (first_of_number context_no k cs ≡ None → first_of_number context_no k (without_first context_no id cs) ≡ None) → (b : Bool) → (x.id == k) ≡ b → cond b (Some x) (first_of_number context_no k cs) ≡ None → first_of_number context_no k (cond (x.id == id) cs (x ∷ without_first context_no id cs)) ≡ None
    by_k ih true same gone = absurd (none_is (sym gone))
    by_k ih false same gone = by_id gone (ih gone) same (x.id == id)

drawn_less : (last : ℕ) (cs : List Context) (id : ℕ) → AreDrawn last cs → AreDrawn last (without_first context_no id cs)
drawn_less last [] id drawn = tt
drawn_less last (x ∷ cs) id drawn = by_id (drawn_less last cs id drawn.2) (x.id == id)
  where
    by_id : AreDrawn last (without_first context_no id cs) → (b : Bool) → AreDrawn last (cond b cs (x ∷ without_first context_no id cs))
    by_id ih true = drawn.2
    by_id ih false = (drawn.0, none_removed cs id x.id drawn.1, ih)

-- ---- one VM among the others

module _ (h k : Contexts) (vm : ℕ) (v : VmContexts) (within : vm < length h.vms) (is : k.vms ≡ slice_set h.vms vm v) where
  vm_here : vm_in k vm ≡ v
  vm_here = ap (λ (vs : List VmContexts). slice_index_or vs vm no_vm) is ∙ get_or-set_same h.vms vm v no_vm within

  vm_other : (wm : ℕ) → (wm ≡ vm → ⊥) → vm_in k wm ≡ vm_in h wm
  vm_other wm apart = ap (λ (vs : List VmContexts). slice_index_or vs wm no_vm) is ∙ get_or-set_other h.vms vm wm v no_vm apart

  -- what holds of the VM's contexts, and of the others', holds of all
  contexts_by : (wm d : ℕ) → (wm ≡ vm → first_of_number context_no d v.contexts ≡ context_in h vm d) → context_in k wm d ≡ context_in h wm d
  contexts_by wm d here = ⊎_elim
      (λ (same : wm ≡ vm). subst (λ m. context_in k m d ≡ context_in h m d) (sym same) (ap (λ (w : VmContexts). first_of_number context_no d w.contexts) vm_here ∙ here same))
      (λ (other : wm ≡ vm → ⊥). ap (λ (w : VmContexts). first_of_number context_no d w.contexts) (vm_other wm other))
      (cases_eq wm vm)

  ids_by : (wm : ℕ) → (IdsAreDrawn h vm → AreDrawn v.last v.contexts) → IdsAreDrawn h wm → IdsAreDrawn k wm
  ids_by wm here drawn = ⊎_elim
      (λ (same : wm ≡ vm). subst (λ m. IdsAreDrawn k m) (sym same) (subst (λ (w : VmContexts). AreDrawn w.last w.contexts) (sym vm_here) (here (subst (IdsAreDrawn h) same drawn))))
      (λ (other : wm ≡ vm → ⊥). subst (λ (w : VmContexts). AreDrawn w.last w.contexts) (sym (vm_other wm other)) drawn)
      (cases_eq wm vm)

-- a context put after those of its VM, under the next id
module _ (h k : Contexts) (vm : ℕ) (c : Context) (within : vm < length h.vms) (next : c.id ≡ next_id h vm) (is : k.vms ≡ slice_set h.vms vm (with_context c (vm_in h vm))) where
  new_there : IdsAreDrawn h vm → context_in k vm (next_id h vm) ≡ Some c
  new_there drawn =
      ap (λ (w : VmContexts). first_of_number context_no (next_id h vm) w.contexts) (vm_here h k vm (with_context c (vm_in h vm)) within is)
      ∙ found_last (vm_in h vm).contexts c (next_id h vm) next (fresh (vm_in h vm).last (vm_in h vm).contexts (next_id h vm) (omega arith) drawn)

  new_others : (wm d : ℕ) → IsOtherContext vm (next_id h vm) wm d → context_in k wm d ≡ context_in h wm d
  new_others wm d apart = contexts_by h k vm (with_context c (vm_in h vm)) within is wm d
      (λ same. found_before (vm_in h vm).contexts c d (λ one. apart same (sym one ∙ next)))

  new_ids : (wm : ℕ) → IdsAreDrawn h wm → IdsAreDrawn k wm
  new_ids wm = ids_by h k vm (with_context c (vm_in h vm)) within is wm
      (λ drawn. subst (λ n. AreDrawn n ((vm_in h vm).contexts ++ c ∷ [])) (sym next) (drawn_more (vm_in h vm).last (vm_in h vm).contexts c next drawn))

pub creates_one : CreatesOne
creates_one = record {
  root = λ vm plugin h within drawn. new_there h (root_created vm plugin h) vm (root_context (next_id h vm) plugin) within refl refl drawn;
  root_others = λ vm plugin h wm d within apart. new_others h (root_created vm plugin h) vm (root_context (next_id h vm) plugin) within refl refl wm d apart;
  root_ids = λ vm plugin h wm within drawn. new_ids h (root_created vm plugin h) vm (root_context (next_id h vm) plugin) within refl refl wm drawn;
  stream = λ vm root line h within drawn. new_there h (stream_created vm root line h) vm (stream_context (next_id h vm) (plugin_at (context_in h vm root)) root (open_place line h.exchanges)) within refl refl drawn;
  stream_others = λ vm root line h wm d within apart. new_others h (stream_created vm root line h) vm (stream_context (next_id h vm) (plugin_at (context_in h vm root)) root (open_place line h.exchanges)) within refl refl wm d apart;
  stream_ids = λ vm root line h wm within drawn. new_ids h (stream_created vm root line h) vm (stream_context (next_id h vm) (plugin_at (context_in h vm root)) root (open_place line h.exchanges)) within refl refl wm drawn;
}

-- ---- places that are freed

freed_vms : (n : ℕ) (h : Contexts) → (freed n h).vms ≡ h.vms
freed_vms n h = by_test (has_ended (exchange_at h.exchanges n) && not (is_referred n h.vms))
  where
    by_test : (b : Bool) → (if b then record h { exchanges = slice_set h.exchanges n None } else h).vms ≡ h.vms
    by_test true = refl
    by_test false = refl

-- a place to which a context refers stays
freed_not : (n : ℕ) (h : Contexts) → is_referred n h.vms ≡ true → freed n h ≡ h
freed_not n h referred = by_ended (has_ended (exchange_at h.exchanges n))
  where
    by_ended : (b : Bool) → (if (b && not (is_referred n h.vms)) then record h { exchanges = slice_set h.exchanges n None } else h) ≡ h
    by_ended true = ap (λ b. if (not b) then record h { exchanges = slice_set h.exchanges n None } else h) referred
    by_ended false = refl

freed_other : (n : ℕ) (h : Contexts) (m : ℕ) → (m ≡ n → ⊥) → exchange_at (freed n h).exchanges m ≡ exchange_at h.exchanges m
freed_other n h m apart = by_test (has_ended (exchange_at h.exchanges n) && not (is_referred n h.vms))
  where
    by_test : (b : Bool) → exchange_at (if b then record h { exchanges = slice_set h.exchanges n None } else h).exchanges m ≡ exchange_at h.exchanges m
    by_test true = get_or-set_other h.exchanges n m None None apart
    by_test false = refl

-- a context that is there refers to its exchange
or_right : (a b : Bool) → b ≡ true → (a || b) ≡ true
or_right true b is = refl
or_right false b is = is

any_found : (p : Context → Bool) (cs : List Context) (d : ℕ) (c : Context) → first_of_number context_no d cs ≡ Some c → p c ≡ true → list_any p cs ≡ true
any_found p [] d c is good = absurd (none_is is)
any_found p (x ∷ cs) d c is good = by_id (λ same. any_found p cs d c same good) (x.id == d) is
  where
    by_id : (first_of_number context_no d cs ≡ Some c → list_any p cs ≡ true) → (b : Bool) → cond b (Some x) (first_of_number context_no d cs) ≡ Some c → (p x || list_any p cs) ≡ true
    by_id ih true same = ap (λ q. q || list_any p cs) (ap p (from_some same) ∙ good)
    by_id ih false same = or_right (p x) (list_any p cs) (ih same)

any_at : (p : VmContexts → Bool) (vs : List VmContexts) (wm : ℕ) → wm < length vs → p (slice_index_or vs wm no_vm) ≡ true → list_any p vs ≡ true
any_at p [] wm within good = absurd (omega (arith, within))
any_at p (v ∷ vs) zero within good = ap (λ q. q || list_any p vs) good
any_at p (v ∷ vs) (suc wm) within good = or_right (p v) (list_any p vs) (any_at p vs wm (omega (arith, within)) good)

referred : (n : ℕ) (h : Contexts) (wm d : ℕ) (c : Context) → wm < length h.vms → context_in h wm d ≡ Some c → c.exchange ≡ Some n → is_referred n h.vms ≡ true
referred n h wm d c within is at =
    any_at (λ (v : VmContexts). list_any (λ (b : Context). refers_to n b.exchange) v.contexts) h.vms wm within
    (any_found (λ (b : Context). refers_to n b.exchange) (vm_in h wm).contexts d c is (ap (refers_to n) at ∙ eq-eqb n n refl))

-- ---- a context that is deleted

freed_of_vms : (o : Option ℕ) (h : Contexts) → (freed_of o h).vms ≡ h.vms
freed_of_vms None h = refl
freed_of_vms (Some n) h = freed_vms n h

kept_view : (h : Contexts) (o : Option ℕ) (wm d : ℕ) (c : Context) (p : Option ℕ) → wm < length h.vms → context_in h wm d ≡ Some c → c.exchange ≡ p → view_in (freed_of o h).exchanges p ≡ view_in h.exchanges p
kept_view h None wm d c p within is at = refl
kept_view h (Some n) wm d c None within is at = refl
kept_view h (Some n) wm d c (Some m) within is at = ⊎_elim
    (λ (same : m ≡ n). ap (λ (g : Contexts). view_at g.exchanges m) (freed_not n h (referred n h wm d c within is (at ∙ ap Some same))))
    (λ (other : m ≡ n → ⊥). ap (option_map (λ (x : ExchangeEntry). x.view)) (freed_other n h m other))
    (cases_eq m n)

module _ (vm id : ℕ) (h : Contexts) (within : vm < length h.vms) where
  abbrev mid : Contexts
  mid = without_context vm id h

  deleted_vms : (delete_id vm id h).vms ≡ slice_set h.vms vm (without_id id (vm_in h vm))
  deleted_vms = freed_of_vms (exchange_of (context_in h vm id)) mid

  others_in : (k : Contexts) → k.vms ≡ slice_set h.vms vm (without_id id (vm_in h vm)) → (wm d : ℕ) → IsOtherContext vm id wm d → context_in k wm d ≡ context_in h wm d
  others_in k is wm d apart = contexts_by h k vm (without_id id (vm_in h vm)) within is wm d (λ same. removed_other (vm_in h vm).contexts id d (apart same))

  is_gone : IdsAreDrawn h vm → context_in (delete_id vm id h) vm id ≡ None
  is_gone drawn =
      ap (λ (w : VmContexts). first_of_number context_no id w.contexts) (vm_here h (delete_id vm id h) vm (without_id id (vm_in h vm)) within deleted_vms)
      ∙ removed_gone (vm_in h vm).last (vm_in h vm).contexts id drawn

  views_stay : (wm d : ℕ) (c : Context) → IsOtherContext vm id wm d → wm < length h.vms → context_in h wm d ≡ Some c → view_in (delete_id vm id h).exchanges c.exchange ≡ view_in h.exchanges c.exchange
  views_stay wm d c apart inside is =
      kept_view mid (exchange_of (context_in h vm id)) wm d c c.exchange (omega (arith, inside, length-set h.vms vm (without_id id (vm_in h vm)))) (others_in mid refl wm d apart ∙ is) refl

pub deletes_one : DeletesOne
deletes_one = record {
  gone = λ vm id h within drawn. is_gone vm id h within drawn;
  others = λ vm id h wm d within apart. others_in vm id h within (delete_id vm id h) (deleted_vms vm id h within) wm d apart;
  exchanges = λ vm id h wm d c within apart inside is. views_stay vm id h within wm d c apart inside is;
  ids = λ vm id h wm within drawn. ids_by h (delete_id vm id h) vm (without_id id (vm_in h vm)) within (deleted_vms vm id h within) wm (drawn_less (vm_in h vm).last (vm_in h vm).contexts id) drawn;
}

-- ---- an exchange that ends

ended_set : (xs : List (Option ExchangeEntry)) (n : ℕ) → view_at (slice_set xs n (option_map ended_one (exchange_at xs n))) n ≡ option_map ended_view (view_at xs n)
ended_set [] n = refl
ended_set (None ∷ xs) zero = refl
ended_set (Some x ∷ xs) zero = refl
ended_set (x ∷ xs) (suc n) = ended_set xs n

pub ends_one : EndsOne
ends_one = record {
  maps = λ n h wm d c within is at.
      let k : Contexts = record h { exchanges = slice_set h.exchanges n (option_map ended_one (exchange_at h.exchanges n)) } in
      ap (λ (g : Contexts). view_at g.exchanges n) (freed_not n k (referred n h wm d c within is at)) ∙ ended_set h.exchanges n;
  others = λ n h m apart.
      let k : Contexts = record h { exchanges = slice_set h.exchanges n (option_map ended_one (exchange_at h.exchanges n)) } in
      freed_other n k m apart ∙ get_or-set_other h.exchanges n m (option_map ended_one (exchange_at h.exchanges n)) None apart;
  contexts = λ n h. freed_vms n (record h { exchanges = slice_set h.exchanges n (option_map ended_one (exchange_at h.exchanges n)) });
}
