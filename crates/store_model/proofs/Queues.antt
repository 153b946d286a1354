-- The laws of queues and notices.
use Rattle.std.specs.Prelude.{◌≡◌, ◌≢◌, ℕ, ◌+◌, ◌-◌, ◌==◌, ◌&&◌, ◌<◌, ◌≤◌, Bool, true, false, cond, List, [], ◌∷◌, ◌++◌, length, Option, Some, None, refl, nat_lt, nat_le, All}
use Rattle.std.proofs.Common.{sym, ap, subst, ◌∙◌, arith, append_assoc, length-append, length-set, get_or-set_same, get_or-set_other, eqb-true, ne_eqb, eq-eqb}
use Rattle.std.proofs.lemmas.List.{append-nil, get_or_append_left, get_or_push}
use Rattle.std.proofs.lemmas.Bool.{cases_eq, cases_lt}
use Rattle.std.proofs.lemmas.Bool.Decides.{nat_tests}
use Rattle.std.proofs.lemmas.List.Elements.{All-cons, All-nil}
use Rattle.std.proofs.Common.{⊎_elim}
use Rattle.store_model.specs.Keys.{used_by_keys}
use Rattle.store_model.specs.Limits.{fits}
use Rattle.store_model.specs.Queues.{Queue, Queues, no_queue, no_queues, base_of, id_at, index_of, named, queue_in, queue_with, set_queue, with_new, with_item, owed_more, has_room_in, first_reply, but_first, is_for, oldest_for, but_oldest, used_by_queues, register_after, enqueue_after, enqueue_reply, dequeue_after, dequeue_reply, notice_reply}
use Rattle.store_model.specs.Store.{Store, empty_store, applied}
use Rattle.store_model.specs.History.{IsLegal, IsLegalFrom, store_acts, store_after, value_from}
use Rattle.store_model.specs.QueueLaws.{items_at, items_of, put_in, handed_out, enqueued_by, dequeued_by, enqueued, dequeued, TakesOldest}
use Rattle.store_model.specs.declared.call.Call.{Call}
use Rattle.store_model.specs.declared.call.Call.TheVariants.{Get, Set, Register, Resolve, Enqueue, Dequeue, Notice}
use Rattle.store_model.specs.declared.call.Reply.{Reply}
use Rattle.store_model.specs.declared.call.Reply.TheVariants.{Done, Full, Owed, NoneOwed}
use Rattle.store_model.specs.declared.entry.Entry.{Entry}
use Rattle.store_model.specs.declared.used.Used.{Used}
use Rattle.store_model.proofs.Keys.{first_legal, rest_legal}

-- ---- ids and indexes
index_within : (b n id k : ℕ) → cond (nat_lt b id && nat_le id (b + n)) (Some (id - b - 1)) None ≡ Some k → (id ≡ b + k + 1) × (k < n)
index_within b n id k h = grind (arith, nat_tests)

index_none : (b n id : ℕ) → cond (nat_lt b id && nat_le id (b + n)) (Some (id - b - 1)) None ≡ None → (k : ℕ) → k < n → id ≡ b + k + 1 → ⊥
index_none b n id h k less is = grind (arith, nat_tests)

index_there : (b n id k : ℕ) → id ≡ b + k + 1 → k < n → cond (nat_lt b id && nat_le id (b + n)) (Some (id - b - 1)) None ≡ Some k
index_there b n id k is less = grind (arith, nat_tests)

pub index_is : (q : Queues) (id k : ℕ) → index_of q id ≡ Some k → (id ≡ base_of q.vm + k + 1) × (k < length q.queues)
index_is q id k h = index_within (base_of q.vm) (length q.queues) id k h

pub index_from : (q : Queues) (id k : ℕ) → id ≡ base_of q.vm + k + 1 → k < length q.queues → index_of q id ≡ Some k
index_from q id k is less = index_there (base_of q.vm) (length q.queues) id k is less

-- ---- items
-- in a store with as many queues an id has the same index
index_set : (q : Queues) (k : ℕ) (x : Queue) (id : ℕ) → index_of (set_queue q k x) id ≡ index_of q id
index_set q k x id = ap (λ n. cond (nat_lt (base_of q.vm) id && nat_le id (base_of q.vm + n)) (Some (id - base_of q.vm - 1)) None) (length-set q.queues k x)

set_here : (q : Queues) (k : ℕ) (x : Queue) → k < length q.queues → items_at (set_queue q k x) (Some k) ≡ x.items
set_here q k x less = ap (λ (y : Queue). y.items) (get_or-set_same q.queues k x no_queue less)

set_elsewhere : (q : Queues) (k j : ℕ) (x : Queue) → j ≢ k → items_at (set_queue q k x) (Some j) ≡ items_at q (Some j)
set_elsewhere q k j x apart = ap (λ (y : Queue). y.items) (get_or-set_other q.queues k j x no_queue apart)

-- one queue was changed, that of the id `queue`
items_changed : (q : Queues) (queue id k : ℕ) (x : Queue) → index_of q queue ≡ Some k → items_of (set_queue q k x) id ≡ cond (queue == id) x.items (items_of q id)
items_changed q queue id k x at =
    let there = index_is q queue k at in
    ap (items_at (set_queue q k x)) (index_set q k x id)
    ∙ ⊎_elim
    (λ (same : queue ≡ id).
    ap (items_at (set_queue q k x)) (subst (λ n. index_of q n ≡ Some k) same at) ∙ set_here q k x there.1 ∙ sym (ap (λ b. cond b x.items (items_of q id)) (eq-eqb queue id same)))
    (λ (apart : queue ≡ id → ⊥).
    elsewhere (index_of q id) (λ j is. λ (e : j ≡ k). apart (there.0 ∙ ap (λ n. base_of q.vm + n + 1) (sym e) ∙ sym (index_is q id j is).0)) ∙ sym (ap (λ b. cond b x.items (items_of q id)) (ne_eqb queue id apart)))
    (cases_eq queue id)
  where
    elsewhere : (o : Option ℕ) → ((j : ℕ) → o ≡ Some j → j ≢ k) → items_at (set_queue q k x) o ≡ items_at q o
    elsewhere None h = refl
    elsewhere (Some j) h = set_elsewhere q k j x (h j refl)

-- a queue was changed and its items were not
items_kept : (q : Queues) (id k : ℕ) (x : Queue) → x.items ≡ (queue_in q k).items → items_of (set_queue q k x) id ≡ items_of q id
items_kept q id k x same = ap (items_at (set_queue q k x)) (index_set q k x id) ∙ at (index_of q id) (λ j is. (index_is q id j is).1)
  where
    at : (o : Option ℕ) → ((j : ℕ) → o ≡ Some j → j < length q.queues) → items_at (set_queue q k x) o ≡ items_at q o
    at None h = refl
    at (Some j) h =
        ⊎_elim
        (λ (e : j ≡ k). subst (λ n. items_at (set_queue q k x) (Some n) ≡ items_at q (Some n)) (sym e) (set_here q k x (subst (λ n. n < length q.queues) e (h j refl)) ∙ same))
        (λ (apart : j ≡ k → ⊥). set_elsewhere q k j x apart)
        (cases_eq j k)

-- a queue was made
items_new : (q : Queues) (id who root : ℕ) (name : List ℕ) → items_of (with_new q who root name) id ≡ items_of q id
items_new q id who root name = at (index_of q id) refl (index_of (with_new q who root name) id) refl
  where
    new : Queue
    new = record { name = name; who = who; root = root; items = [] }

    more : length (q.queues ++ new ∷ []) ≡ length q.queues + 1
    more = length-append q.queues (new ∷ [])

    at : (o : Option ℕ) → index_of q id ≡ o → (p : Option ℕ) → index_of (with_new q who root name) id ≡ p → items_at (with_new q who root name) p ≡ items_at q o
    at (Some k) is (Some j) now =
        let old = index_is q id k is in
        let here = index_is (with_new q who root name) id j now in
        let same : j ≡ k = omega (arith, old.0, here.0) in
        subst (λ n. items_at (with_new q who root name) (Some n) ≡ items_at q (Some k)) (sym same) (ap (λ (y : Queue). y.items) (get_or_append_left q.queues (new ∷ []) no_queue k old.1))
    at (Some k) is None now =
        let old = index_is q id k is in
        absurd (index_none (base_of q.vm) (length (q.queues ++ new ∷ [])) id now k (omega (arith, old.1, more)) old.0)
    at None is None now = refl
    at None is (Some j) now =
        let here = index_is (with_new q who root name) id j now in
        let last : length q.queues ≡ j =
        ⊎_elim (λ (less : j < length q.queues). absurd (index_none (base_of q.vm) (length q.queues) id is j less here.0)) (λ (le : length q.queues ≤ j). omega (arith, le, here.1, more)) (cases_lt j (length q.queues)) in
        ap (λ (y : Queue). y.items) (get_or_push q.queues new no_queue j last)

-- what was there and what came in is what went out and what is there now
record Keeps (id : ℕ) (q : Queues) (call : Call) (reply : Reply) (r : Queues) : Type 0 where
  pub is : items_of q id ++ enqueued_by id call reply ≡ dequeued_by id call reply ++ items_of r id

still : (xs ys : List (List ℕ)) → ys ≡ xs → xs ++ [] ≡ [] ++ ys
still xs ys same = append-nil xs ∙ sym same

register_keeps : (id : ℕ) (other : Used) (q : Queues) (who root : ℕ) (name : List ℕ) (o : Option ℕ) → items_of (register_after other q who root name o) id ≡ items_of q id
register_keeps id other q who root name None =
    elim (fits (used_by_queues (with_new q who root name)) other) as (λ b. items_of (cond b (with_new q who root name) q) id ≡ items_of q id) [ true ↦ items_new q id who root name | false ↦ refl ]
register_keeps id other q who root name (Some k) = items_kept q id k (record (queue_in q k) { who = who; root = root }) refl

enqueue_keeps : (id : ℕ) (other : Used) (q : Queues) (queue : ℕ) (item : List ℕ) (o : Option ℕ) → index_of q queue ≡ o →
    items_of q id ++ cond (queue == id) (put_in item (enqueue_reply other q item o)) [] ≡ items_of (enqueue_after other q item o) id
enqueue_keeps id other q queue item None at = none (queue == id)
  where
    none : (b : Bool) → items_of q id ++ cond b [] [] ≡ items_of q id
    none true = append-nil (items_of q id)
    none false = append-nil (items_of q id)
enqueue_keeps id other q queue item (Some k) at =
    elim (has_room_in other q k item) as
    (λ b. items_of q id ++ cond (queue == id) (put_in item (cond b (Done 0) Full)) [] ≡ items_of (cond b (record (with_item q k item) { owed = owed_more q.owed (id_at q k) }) q) id) [
      | true ↦ room
      | false ↦ none (queue == id)
    ]
  where
    none : (b : Bool) → items_of q id ++ cond b [] [] ≡ items_of q id
    none true = append-nil (items_of q id)
    none false = append-nil (items_of q id)

    room : items_of q id ++ cond (queue == id) (item ∷ []) [] ≡ items_of (with_item q k item) id
    room =
        ⊎_elim
        (λ (same : queue ≡ id).
        ap (λ b. items_of q id ++ cond b (item ∷ []) []) (eq-eqb queue id same) ∙ ap (λ xs. xs ++ item ∷ []) (ap (items_at q) (subst (λ n. index_of q n ≡ Some k) same at))
        ∙ sym (items_changed q queue id k (record (queue_in q k) { items = (queue_in q k).items ++ item ∷ [] }) at ∙ ap (λ b. cond b ((queue_in q k).items ++ item ∷ []) (items_of q id)) (eq-eqb queue id same)))
        (λ (apart : queue ≡ id → ⊥).
        ap (λ b. items_of q id ++ cond b (item ∷ []) []) (ne_eqb queue id apart) ∙ append-nil (items_of q id)
        ∙ sym (items_changed q queue id k (record (queue_in q k) { items = (queue_in q k).items ++ item ∷ [] }) at ∙ ap (λ b. cond b ((queue_in q k).items ++ item ∷ []) (items_of q id)) (ne_eqb queue id apart)))
        (cases_eq queue id)

taken_apart : (xs : List (List ℕ)) → xs ≡ handed_out (first_reply xs) ++ but_first xs
taken_apart [] = refl
taken_apart (x ∷ xs) = refl

dequeue_keeps : (id : ℕ) (q : Queues) (queue : ℕ) (o : Option ℕ) → index_of q queue ≡ o → items_of q id ≡ cond (queue == id) (handed_out (dequeue_reply q o)) [] ++ items_of (dequeue_after q o) id
dequeue_keeps id q queue None at = none (queue == id)
  where
    none : (b : Bool) → items_of q id ≡ cond b [] [] ++ items_of q id
    none true = refl
    none false = refl
dequeue_keeps id q queue (Some k) at =
    ⊎_elim
    (λ (same : queue ≡ id).
    ap (items_at q) (subst (λ n. index_of q n ≡ Some k) same at) ∙ taken_apart (queue_in q k).items
    ∙ sym (λ i. cond (eq-eqb queue id same i) (handed_out (first_reply (queue_in q k).items)) [] ++ (items_changed q queue id k rest at ∙ ap (λ b. cond b rest.items (items_of q id)) (eq-eqb queue id same)) i))
    (λ (apart : queue ≡ id → ⊥).
    sym (λ i. cond (ne_eqb queue id apart i) (handed_out (first_reply (queue_in q k).items)) [] ++ (items_changed q queue id k rest at ∙ ap (λ b. cond b rest.items (items_of q id)) (ne_eqb queue id apart)) i))
    (cases_eq queue id)
  where
    rest : Queue
    rest = record (queue_in q k) { items = but_first (queue_in q k).items }

keeps_step : (id : ℕ) (s : Store) (who : ℕ) (call : Call) → Keeps id s.queues call (applied s who call).reply (applied s who call).store.queues
keeps_step id s who (Get key) = record { is = still (items_of s.queues id) (items_of s.queues id) refl }
keeps_step id s who (Set key value number) = record { is = still (items_of s.queues id) (items_of s.queues id) refl }
keeps_step id s who (Register name root) = record { is = still _ _ (register_keeps id (used_by_keys s.keys) s.queues who root name (named s.queues name)) }
keeps_step id s who (Resolve name) = record { is = still (items_of s.queues id) (items_of s.queues id) refl }
keeps_step id s who (Enqueue queue item) = record { is = enqueue_keeps id (used_by_keys s.keys) s.queues queue item (index_of s.queues queue) refl }
keeps_step id s who (Dequeue queue) = record { is = append-nil (items_of s.queues id) ∙ dequeue_keeps id s.queues queue (index_of s.queues queue) refl }
keeps_step id s who Notice = record { is = still (items_of s.queues id) (items_of s.queues id) refl }

items_from : (id : ℕ) (h : List Entry) (s : Store) → IsLegalFrom store_acts s h → items_of s.queues id ++ enqueued id h ≡ dequeued id h ++ items_of (value_from store_acts s h).queues id
items_from id [] s legal = append-nil (items_of s.queues id)
items_from id (e ∷ es) s legal =
    let t = (applied s e.who e.call).store in
    let step = subst (λ r. Keeps id s.queues e.call r t.queues) (sym (first_legal s e es legal)) (keeps_step id s e.who e.call) in
    sym (append_assoc (items_of s.queues id) (enqueued_by id e.call e.reply) (enqueued id es)) ∙ ap (λ xs. xs ++ enqueued id es) step.is ∙ append_assoc (dequeued_by id e.call e.reply) (items_of t.queues id) (enqueued id es)
    ∙ ap (λ xs. dequeued_by id e.call e.reply ++ xs) (items_from id es t (rest_legal s e es legal)) ∙ sym (append_assoc (dequeued_by id e.call e.reply) (dequeued id es) (items_of (value_from store_acts t es).queues id))

nothing_yet : (vm id : ℕ) → items_of (no_queues vm) id ≡ []
nothing_yet vm id = at (index_of (no_queues vm) id)
  where
    at : (o : Option ℕ) → items_at (no_queues vm) o ≡ []
    at None = refl
    at (Some k) = refl

pub dequeued_was_enqueued : (vm : ℕ) (h : List Entry) (id : ℕ) → IsLegal vm h → enqueued id h ≡ dequeued id h ++ items_of (store_after vm h).queues id
dequeued_was_enqueued vm h id legal = ap (λ xs. xs ++ enqueued id h) (sym (nothing_yet vm id)) ∙ items_from id h (empty_store vm) legal

-- ---- notices
record Parted (q : Queues) (who id : ℕ) (owed after : List ℕ) : Type 0 where
  pub earlier : List ℕ
  pub later : List ℕ
  pub owed_is : owed ≡ earlier ++ id ∷ later
  pub for : is_for q who id ≡ true
  pub oldest : All (λ x. is_for q who x ≡ false) earlier
  pub left : after ≡ earlier ++ later

parted : (q : Queues) (who id : ℕ) (owed : List ℕ) → oldest_for q who owed ≡ Some id → Parted q who id owed (but_oldest q who owed)
parted q who id [] h = absurd (cc)
parted q who id (x ∷ xs) h = at (is_for q who x) refl h (parted q who id xs)
  where
    at : (b : Bool) → is_for q who x ≡ b → cond b (Some x) (oldest_for q who xs) ≡ Some id → (oldest_for q who xs ≡ Some id → Parted q who id xs (but_oldest q who xs)) → Parted q who id (x ∷ xs) (cond b xs (x ∷ but_oldest q who xs))
    at true is e further =
        let same : x ≡ id = cc in
        record { earlier = []; later = xs; owed_is = ap (λ (n : ℕ). n ∷ xs) same; for = subst (λ n. is_for q who n ≡ true) same is; oldest = All-nil (λ x. is_for q who x ≡ false); left = refl }
    at false is e further =
        let rest = further e in
        record {
          earlier = x ∷ rest.earlier;
          later = rest.later;
          owed_is = ap (λ (l : List ℕ). x ∷ l) rest.owed_is;
          for = rest.for;
          oldest = All-cons (λ x. is_for q who x ≡ false) x rest.earlier is rest.oldest;
          left = ap (λ (l : List ℕ). x ∷ l) rest.left;
        }

none_for : (q : Queues) (who : ℕ) (owed : List ℕ) → oldest_for q who owed ≡ None → All (λ x. is_for q who x ≡ false) owed × (but_oldest q who owed ≡ owed)
none_for q who [] h = (All-nil (λ x. is_for q who x ≡ false), refl)
none_for q who (x ∷ xs) h = at (is_for q who x) refl h (none_for q who xs)
  where
    at : (b : Bool) → is_for q who x ≡ b → cond b (Some x) (oldest_for q who xs) ≡ None → (oldest_for q who xs ≡ None → All (λ x. is_for q who x ≡ false) xs × (but_oldest q who xs ≡ xs)) → All (λ x. is_for q who x ≡ false) (x ∷ xs) × (cond b xs (x ∷ but_oldest q who xs) ≡ x ∷ xs)
    at true is e further = absurd (cc)
    at false is e further =
        let rest = further e in
        (All-cons (λ x. is_for q who x ≡ false) x xs is rest.0, ap (λ (l : List ℕ). x ∷ l) rest.1)

pub notice_is_oldest : (s : Store) (who root id : ℕ) → (applied s who Notice).reply ≡ Owed root id → TakesOldest s.queues who id (applied s who Notice).store.queues.owed × (root ≡ (queue_with s.queues id).root)
notice_is_oldest s who root id = at (oldest_for s.queues who s.queues.owed) refl
  where
    at : (o : Option ℕ) → oldest_for s.queues who s.queues.owed ≡ o → notice_reply s.queues o ≡ Owed root id → TakesOldest s.queues who id (but_oldest s.queues who s.queues.owed) × (root ≡ (queue_with s.queues id).root)
    at None is h = absurd (cc)
    at (Some x) is h =
        let same : x ≡ id = cc in
        let p = parted s.queues who id s.queues.owed (is ∙ ap Some same) in (
          record { earlier = p.earlier; later = p.later; owed = p.owed_is; registrant = eqb-true (queue_with s.queues id).who who p.for; oldest = p.oldest; left = p.left },
          (let r : (queue_with s.queues x).root ≡ root = cc in sym r ∙ ap (λ n. (queue_with s.queues n).root) same),
        )

pub none_owed : (s : Store) (who : ℕ) → (applied s who Notice).reply ≡ NoneOwed → All (λ x. is_for s.queues who x ≡ false) s.queues.owed × ((applied s who Notice).store ≡ s)
none_owed s who = at (oldest_for s.queues who s.queues.owed) refl
  where
    at : (o : Option ℕ) → oldest_for s.queues who s.queues.owed ≡ o → notice_reply s.queues o ≡ NoneOwed → All (λ x. is_for s.queues who x ≡ false) s.queues.owed × ((applied s who Notice).store ≡ s)
    at None is h =
        let p = none_for s.queues who s.queues.owed is in
        (p.0, λ i. record s { queues = record s.queues { owed = p.1 i } })
    at (Some x) is h = absurd (cc)
