-- What a refused call leaves, and what the ids of queues name.
use Rattle.std.specs.Prelude.{◌≡◌, ℕ, ◌+◌, ◌&&◌, ◌<◌, ◌≤◌, Bool, true, false, cond, List, [], ◌∷◌, ◌++◌, length, Option, Some, None, refl}
use Rattle.std.specs.Option.{option_map}
use Rattle.std.proofs.Common.{sym, ap, ◌∙◌, arith, length-set, length-append, set, get_or-set_same, get_or-set_other, ⊎_elim}
use Rattle.std.specs.Str.{bytes_eq}
use Rattle.std.proofs.lemmas.Bool.{cases_eq}
use Rattle.std.proofs.lemmas.List.{set-get_or, get_or_append_left}
use Rattle.store_model.specs.Keys.{Keys, put, accepts, has_room_for, set_after, set_reply, used_by_keys}
use Rattle.store_model.specs.Limits.{fits}
use Rattle.store_model.specs.Queues.{Queue, Queues, no_queue, base_of, id_at, index_of, named, oldest_for, owed_more, queue_in, set_queue, with_new, with_item, has_room_in, first_reply, but_first, used_by_queues, register_after, register_reply, resolve_reply, enqueue_after, enqueue_reply, dequeue_after, dequeue_reply, notice_reply}
use Rattle.store_model.specs.Store.{Store, applied}
use Rattle.store_model.specs.History.{store_acts, value_from}
use Rattle.store_model.specs.StoreLaws.{IsRefusal, name_of}
use Rattle.store_model.specs.declared.call.Call.{Call}
use Rattle.store_model.specs.declared.call.Call.TheVariants.{Get, Set, Register, Resolve, Enqueue, Dequeue, Notice}
use Rattle.store_model.specs.declared.call.Reply.TheVariants.{Done, CasMismatch, Full, Id}
use Rattle.store_model.specs.declared.entry.Entry.{Entry}
use Rattle.store_model.specs.declared.used.Used.{Used}
use Rattle.store_model.proofs.Entries.{bytes_eq-same}
use Rattle.store_model.proofs.Queues.{index_is, index_from, none_owed}
use Rattle.store_model.proofs.Uses.{named-set, named-push, option_or}

-- ---- a refused call
refused_set : (other : Used) (d : Keys) (key value : List ℕ) (number : ℕ) → IsRefusal (set_reply other d key value number) → set_after other d key value number ≡ d
refused_set other d key value number = at (accepts d key number) (has_room_for other d key value)
  where
    at : (a r : Bool) → IsRefusal (cond a (cond r (Done d.next) Full) CasMismatch) → cond (a && r) (put d key value) d ≡ d
    at true true h = absurd h
    at true false h = refl
    at false r h = refl

refused_register : (other : Used) (q : Queues) (who root : ℕ) (name : List ℕ) (o : Option ℕ) → IsRefusal (register_reply other q who root name o) → register_after other q who root name o ≡ q
refused_register other q who root name None = at (fits (used_by_queues (with_new q who root name)) other)
  where
    at : (b : Bool) → IsRefusal (cond b (Id (id_at q (length q.queues))) Full) → cond b (with_new q who root name) q ≡ q
    at true h = absurd h
    at false h = refl
refused_register other q who root name (Some k) = λ h. absurd h

refused_enqueue : (other : Used) (q : Queues) (item : List ℕ) (o : Option ℕ) → IsRefusal (enqueue_reply other q item o) → enqueue_after other q item o ≡ q
refused_enqueue other q item None = λ h. refl
refused_enqueue other q item (Some k) = at (has_room_in other q k item)
  where
    at : (b : Bool) → IsRefusal (cond b (Done 0) Full) → cond b (record (with_item q k item) { owed = owed_more q.owed (id_at q k) }) q ≡ q
    at true h = absurd h
    at false h = refl

refused_dequeue : (q : Queues) (o : Option ℕ) → IsRefusal (dequeue_reply q o) → dequeue_after q o ≡ q
refused_dequeue q None = λ h. refl
refused_dequeue q (Some k) = at (queue_in q k).items refl
  where
    at : (items : List (List ℕ)) → (queue_in q k).items ≡ items → IsRefusal (first_reply items) → set_queue q k (record (queue_in q k) { items = but_first items }) ≡ q
    at [] e h = λ i. record q { queues = (ap (λ l. set q.queues k (record (queue_in q k) { items = l })) (sym e) ∙ set-get_or q.queues k no_queue) i }
    at (item ∷ items) e h = absurd h

refused_notice : (s : Store) (who : ℕ) (o : Option ℕ) → oldest_for s.queues who s.queues.owed ≡ o → IsRefusal (notice_reply s.queues o) → (applied s who Notice).store ≡ s
refused_notice s who None e h = (none_owed s who (ap (notice_reply s.queues) e)).1
refused_notice s who (Some id) e h = absurd h

pub refused_changes_nothing : (s : Store) (who : ℕ) (call : Call) → IsRefusal (applied s who call).reply → (applied s who call).store ≡ s
refused_changes_nothing s who (Get key) h = refl
refused_changes_nothing s who (Set key value number) h = λ i. record s { keys = refused_set (used_by_queues s.queues) s.keys key value number h i }
refused_changes_nothing s who (Register name root) h = λ i. record s { queues = refused_register (used_by_keys s.keys) s.queues who root name (named s.queues name) h i }
refused_changes_nothing s who (Resolve name) h = refl
refused_changes_nothing s who (Enqueue queue item) h = λ i. record s { queues = refused_enqueue (used_by_keys s.keys) s.queues item (index_of s.queues queue) h i }
refused_changes_nothing s who (Dequeue queue) h = λ i. record s { queues = refused_dequeue s.queues (index_of s.queues queue) h i }
refused_changes_nothing s who Notice h = refused_notice s who (oldest_for s.queues who s.queues.owed) refl h

-- ---- names and ids
-- the queues stay where they are, under their names
record KeepsNames (q r : Queues) : Type 0 where
  pub vm : r.vm ≡ q.vm
  pub long : length q.queues ≤ length r.queues
  pub found : (name : List ℕ) (k : ℕ) → named q name ≡ Some k → named r name ≡ Some k
  pub names : (k : ℕ) → k < length q.queues → (queue_in r k).name ≡ (queue_in q k).name

keeps_all : (q : Queues) → KeepsNames q q
keeps_all q = record { vm = refl; long = omega arith; found = λ name k h. h; names = λ k h. refl }

keeps_set : (q : Queues) (k : ℕ) (x : Queue) → x.name ≡ (queue_in q k).name → KeepsNames q (set_queue q k x)
keeps_set q k x same = record {
  vm = refl;
  long = omega (arith, length-set q.queues k x);
  found = λ name j h. named-set 0 name q.queues k x same ∙ h;
  names = λ j less. ⊎_elim
      (λ (e : j ≡ k). let within : k < length q.queues = omega (arith, e, less) in
      ap (λ n. (queue_in (set_queue q k x) n).name) e ∙ ap (λ (y : Queue). y.name) (get_or-set_same q.queues k x no_queue within) ∙ same ∙ ap (λ n. (queue_in q n).name) (sym e))
      (λ (apart : j ≡ k → ⊥). ap (λ (y : Queue). y.name) (get_or-set_other q.queues k j x no_queue apart))
      (cases_eq j k);
}

keeps_new : (q : Queues) (who root : ℕ) (name : List ℕ) → KeepsNames q (with_new q who root name)
keeps_new q who root name =
    let new : Queue = record { name = name; who = who; root = root; items = [] } in
    record {
      vm = refl;
      long = omega (arith, length-append q.queues (new ∷ []));
      found = λ other k h. named-push 0 other q.queues new ∙ ap (λ o. option_or o (cond (bytes_eq other name) (Some (0 + length q.queues)) None)) h;
      names = λ k less. ap (λ (y : Queue). y.name) (get_or_append_left q.queues (new ∷ []) no_queue k less);
    }

keeps_register : (other : Used) (q : Queues) (who root : ℕ) (name : List ℕ) (o : Option ℕ) → KeepsNames q (register_after other q who root name o)
keeps_register other q who root name None = at (fits (used_by_queues (with_new q who root name)) other)
  where
    at : (b : Bool) → KeepsNames q (cond b (with_new q who root name) q)
    at true = keeps_new q who root name
    at false = keeps_all q
keeps_register other q who root name (Some k) = keeps_set q k (record (queue_in q k) { who = who; root = root }) refl

keeps_enqueue : (other : Used) (q : Queues) (item : List ℕ) (o : Option ℕ) → KeepsNames q (enqueue_after other q item o)
keeps_enqueue other q item None = keeps_all q
keeps_enqueue other q item (Some k) = at (has_room_in other q k item)
  where
    at : (b : Bool) → KeepsNames q (cond b (record (with_item q k item) { owed = owed_more q.owed (id_at q k) }) q)
    at true = let one = keeps_set q k (record (queue_in q k) { items = (queue_in q k).items ++ item ∷ [] }) refl in record { vm = one.vm; long = one.long; found = one.found; names = one.names }
    at false = keeps_all q

keeps_dequeue : (q : Queues) (o : Option ℕ) → KeepsNames q (dequeue_after q o)
keeps_dequeue q None = keeps_all q
keeps_dequeue q (Some k) = keeps_set q k (record (queue_in q k) { items = but_first (queue_in q k).items }) refl

keeps_step : (s : Store) (who : ℕ) (call : Call) → KeepsNames s.queues (applied s who call).store.queues
keeps_step s who (Get key) = keeps_all s.queues
keeps_step s who (Set key value number) = keeps_all s.queues
keeps_step s who (Register name root) = keeps_register (used_by_keys s.keys) s.queues who root name (named s.queues name)
keeps_step s who (Resolve name) = keeps_all s.queues
keeps_step s who (Enqueue queue item) = keeps_enqueue (used_by_keys s.keys) s.queues item (index_of s.queues queue)
keeps_step s who (Dequeue queue) = keeps_dequeue s.queues (index_of s.queues queue)
keeps_step s who Notice = let one = keeps_all s.queues in record { vm = one.vm; long = one.long; found = one.found; names = one.names }

keeps_then : (q r t : Queues) → KeepsNames q r → KeepsNames r t → KeepsNames q t
keeps_then q r t one two = record {
  vm = two.vm ∙ one.vm;
  long = omega (arith, one.long, two.long);
  found = λ name k h. two.found name k (one.found name k h);
  names = λ k less. two.names k (omega (arith, less, one.long)) ∙ one.names k less;
}

keeps_from : (h : List Entry) (s : Store) → KeepsNames s.queues (value_from store_acts s h).queues
keeps_from [] s = keeps_all s.queues
keeps_from (e ∷ es) s =
    let t = (applied s e.who e.call).store in
    keeps_then s.queues t.queues (value_from store_acts t es).queues (keeps_step s e.who e.call) (keeps_from es t)

resolved_from : (q r : Queues) (name : List ℕ) (id : ℕ) (o : Option ℕ) → KeepsNames q r → named q name ≡ o → resolve_reply q o ≡ Id id → resolve_reply r (named r name) ≡ Id id
resolved_from q r name id None keeps is h = absurd (cc)
resolved_from q r name id (Some k) keeps is h = ap (resolve_reply r) (keeps.found name k is) ∙ ap (λ v. Id (base_of v + k + 1)) keeps.vm ∙ h

pub resolved_stays : (s : Store) (h : List Entry) (who later id : ℕ) (name : List ℕ) → (applied s who (Resolve name)).reply ≡ Id id → (applied (value_from store_acts s h) later (Resolve name)).reply ≡ Id id
resolved_stays s h who later id name is = resolved_from s.queues (value_from store_acts s h).queues name id (named s.queues name) (keeps_from h s) refl is

registered_is : (other : Used) (q : Queues) (who root id : ℕ) (name : List ℕ) (o : Option ℕ) → named q name ≡ o → register_reply other q who root name o ≡ Id id →
    resolve_reply (register_after other q who root name o) (named (register_after other q who root name o) name) ≡ Id id
registered_is other q who root id name None is = at (fits (used_by_queues (with_new q who root name)) other)
  where
    here : named (with_new q who root name) name ≡ Some (length q.queues)
    here =
        let e : 0 + length q.queues ≡ length q.queues = omega arith in
        named-push 0 name q.queues (record { name = name; who = who; root = root; items = [] }) ∙ (λ i. option_or (is i) (cond (bytes_eq-same name i) (Some (e i)) None))

    at : (b : Bool) → cond b (Id (id_at q (length q.queues))) Full ≡ Id id → resolve_reply (cond b (with_new q who root name) q) (named (cond b (with_new q who root name) q) name) ≡ Id id
    at true h = ap (resolve_reply (with_new q who root name)) here ∙ h
    at false h = absurd (cc)
registered_is other q who root id name (Some k) is =
    λ h. let q' = set_queue q k (record (queue_in q k) { who = who; root = root }) in
    ap (resolve_reply q') (named-set 0 name q.queues k (record (queue_in q k) { who = who; root = root }) refl ∙ is) ∙ h

pub registered_resolves : (s : Store) (who later root id : ℕ) (name : List ℕ) → (applied s who (Register name root)).reply ≡ Id id → (applied (applied s who (Register name root)).store later (Resolve name)).reply ≡ Id id
registered_resolves s who later root id name is = registered_is (used_by_keys s.keys) s.queues who root id name (named s.queues name) refl is

name_from : (q r : Queues) (id : ℕ) (name : List ℕ) (o : Option ℕ) → KeepsNames q r → index_of q id ≡ o → option_map (λ k. (queue_in q k).name) o ≡ Some name → name_of r id ≡ Some name
name_from q r id name None keeps is h = absurd (cc)
name_from q r id name (Some k) keeps is h =
    let old = index_is q id k is in
    let there : index_of r id ≡ Some k = index_from r id k (old.0 ∙ ap (λ v. base_of v + k + 1) (sym keeps.vm)) (omega (arith, old.1, keeps.long)) in
    ap (option_map (λ j. (queue_in r j).name)) there ∙ ap Some (keeps.names k old.1) ∙ h

pub name_stays : (s : Store) (h : List Entry) (id : ℕ) (name : List ℕ) → name_of s.queues id ≡ Some name → name_of (value_from store_acts s h).queues id ≡ Some name
name_stays s h id name is = name_from s.queues (value_from store_acts s h).queues id name (index_of s.queues id) (keeps_from h s) refl is
