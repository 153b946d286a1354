-- The limits hold whatever is called, and Full comes exactly past one.
use Rattle.std.specs.Prelude.{◌≡◌, ◌⊎◌, ◌↔◌, ℕ, ◌+◌, ◌==◌, ◌&&◌, ◌<◌, ◌≤◌, Bool, true, false, cond, List, [], ◌∷◌, ◌++◌, length, Option, Some, None, refl, nat_lt, nat_le, All}
use Rattle.std.proofs.Common.{sym, ap, subst, ◌∙◌, arith, length-set, length-append, ⊎_elim, inl, inr, eq-eqb, ne_eqb}
use Rattle.std.specs.declared.cmp.Ordering.{Ordering}
use Rattle.std.specs.declared.cmp.Ordering.TheVariants.{Less, Equal, Greater}
use Rattle.std.specs.Ordering.{match_ordering}
use Rattle.std.specs.BTreeMap.{insert_entry}
use Rattle.std.proofs.lemmas.Bool.{cases_eq, and_parts, and_cases, false_from_ne_true}
use Rattle.std.proofs.lemmas.Bool.Decides.{nat_tests}
use Rattle.std.proofs.lemmas.List.Elements.{All-nil, All-cons, All-head, All-tail, All-set, All-push, All-get_or}
use Rattle.std.proofs.lemmas.List.Sums.{sum_by-cons, sum_by_push}
use Rattle.store_model.specs.Keys.{Held, bytes_cmp, put, accepts, has_room_for, set_after, used_by_keys, held_at, reply_of_held}
use Rattle.store_model.specs.Limits.{fits}
use Rattle.store_model.specs.Queues.{Queue, Queues, no_queue, id_at, index_of, named, queue_in, set_queue, with_new, with_item, registered, owed_for, owed_more, has_room_in, but_first, but_oldest, is_for, used_by_queues, register_after, register_reply, enqueue_after, enqueue_reply, dequeue_after, first_reply, resolve_reply, dequeue_reply, notice_reply, oldest_for}
use Rattle.store_model.specs.Store.{Store, empty_store, applied}
use Rattle.store_model.specs.History.{store_acts, store_after, value_from}
use Rattle.store_model.specs.StoreLaws.{IsInLimits, MayBeFull, PassesLimit}
use Rattle.store_model.specs.declared.call.Call.{Call}
use Rattle.store_model.specs.declared.call.Call.TheVariants.{Get, Set, Register, Resolve, Enqueue, Dequeue, Notice}
use Rattle.store_model.specs.declared.call.Reply.{Reply}
use Rattle.store_model.specs.declared.call.Reply.TheVariants.{Done, CasMismatch, Full, Id}
use Rattle.store_model.specs.declared.entry.Entry.{Entry}
use Rattle.store_model.specs.declared.used.Used.{Used}
use Rattle.store_model.proofs.Queues.{index_is}
use Rattle.store_model.proofs.Uses.{named_within, set_queue_bytes, but_first_bytes}

-- ---- tests of limits
le_from : (m n : ℕ) → nat_le m n ≡ true → m ≤ n
le_from m n h = grind (arith, nat_tests)

lt_from : (m n : ℕ) → nat_lt m n ≡ true → m < n
lt_from m n h = grind (arith, nat_tests)

above : (m n : ℕ) → nat_le m n ≡ false → n < m
above m n h = grind (arith, nat_tests)

not_below : (m n : ℕ) → nat_lt m n ≡ false → n ≤ m
not_below m n h = grind (arith, nat_tests)

pub record Fits (a b : Used) : Type 0 where
  pub names : a.names + b.names ≤ 65536
  pub bytes : a.bytes + b.bytes ≤ 67108864

fits_from : (a b : Used) → fits a b ≡ true → Fits a b
fits_from a b h =
    let p = and_parts (nat_le (a.names + b.names) 65536) (nat_le (a.bytes + b.bytes) 67108864) h in
    record { names = le_from (a.names + b.names) 65536 p.0; bytes = le_from (a.bytes + b.bytes) 67108864 p.1 }

passes_from : (a b : Used) → fits a b ≡ false → PassesLimit a b
passes_from a b h =
    ⊎_elim (λ (e : nat_le (a.names + b.names) 65536 ≡ false). inl (above (a.names + b.names) 65536 e)) (λ (e : nat_le (a.bytes + b.bytes) 67108864 ≡ false). inr (above (a.bytes + b.bytes) 67108864 e))
    (and_cases (nat_le (a.names + b.names) 65536) (nat_le (a.bytes + b.bytes) 67108864) h)

past_from : (a b : Used) → PassesLimit a b → fits a b ≡ false
past_from a b p =
    false_from_ne_true (fits a b)
    (λ h. let f = fits_from a b h in
    ⊎_elim (λ (e : 65536 < a.names + b.names). absurd (omega (arith, e, f.names))) (λ (e : 67108864 < a.bytes + b.bytes). absurd (omega (arith, e, f.bytes))) p)

-- ---- keys
numbers_put : (es : List (List ℕ × Held)) (k : List ℕ) (v : Held) → v.number ≤ 4294967295 → All (λ e. e.1.number ≤ 4294967295) es → All (λ e. e.1.number ≤ 4294967295) (insert_entry bytes_cmp es k v)
numbers_put [] k v fit all = All-cons (λ (e : List ℕ × Held). e.1.number ≤ 4294967295) (k, v) [] fit (All-nil (λ (e : List ℕ × Held). e.1.number ≤ 4294967295))
numbers_put (e ∷ es) k v fit all = at (bytes_cmp k e.0) (numbers_put es k v fit (All-tail (λ (e : List ℕ × Held). e.1.number ≤ 4294967295) e es all))
  where
    at : (o : Ordering) → All (λ e. e.1.number ≤ 4294967295) (insert_entry bytes_cmp es k v) → All (λ e. e.1.number ≤ 4294967295) (match_ordering o ((k, v) ∷ e ∷ es) ((e.0, v) ∷ es) (e ∷ insert_entry bytes_cmp es k v))
    at Less rest = All-cons (λ (e : List ℕ × Held). e.1.number ≤ 4294967295) (k, v) (e ∷ es) fit all
    at Equal rest = All-cons (λ (e : List ℕ × Held). e.1.number ≤ 4294967295) (e.0, v) es fit (All-tail (λ (e : List ℕ × Held). e.1.number ≤ 4294967295) e es all)
    at Greater rest = All-cons (λ (e : List ℕ × Held). e.1.number ≤ 4294967295) e (insert_entry bytes_cmp es k v) (All-head (λ (e : List ℕ × Held). e.1.number ≤ 4294967295) e es all) rest

set_step : (s : Store) (key value : List ℕ) (number : ℕ) → IsInLimits s → IsInLimits (record s { keys = set_after (used_by_queues s.queues) s.keys key value number })
set_step s key value number l = at (accepts s.keys key number) (has_room_for (used_by_queues s.queues) s.keys key value) refl
  where
    at : (a r : Bool) → has_room_for (used_by_queues s.queues) s.keys key value ≡ r → IsInLimits (record s { keys = cond (a && r) (put s.keys key value) s.keys })
    at true true room =
        let p = and_parts (nat_le s.keys.next 4294967295) (fits (used_by_keys (put s.keys key value)) (used_by_queues s.queues)) room in
        let f = fits_from (used_by_keys (put s.keys key value)) (used_by_queues s.queues) p.1 in
        record { names = f.names; bytes = f.bytes; numbers = numbers_put s.keys.entries key (record { value = value; number = s.keys.next }) (le_from s.keys.next 4294967295 p.0) l.numbers; items = l.items; notices = l.notices }
    at true false room = l
    at false r room = l

-- ---- queues
-- other queues, that fit beside the keys
with_queues : (s : Store) (qs : List Queue) → IsInLimits s → length s.keys.entries + length qs ≤ 65536 → (used_by_keys s.keys).bytes + (used_by_queues (record s.queues { queues = qs })).bytes ≤ 67108864 → All (λ q. length q.items ≤ 1024) qs →
    IsInLimits (record s { queues = record s.queues { queues = qs } })
with_queues s qs l names bytes items = record { names = names; bytes = bytes; numbers = l.numbers; items = items; notices = l.notices }

register_step : (s : Store) (who root : ℕ) (name : List ℕ) (o : Option ℕ) → named s.queues name ≡ o → IsInLimits s → IsInLimits (record s { queues = register_after (used_by_keys s.keys) s.queues who root name o })
register_step s who root name None is l = at (fits (used_by_queues (with_new s.queues who root name)) (used_by_keys s.keys)) refl
  where
    at : (b : Bool) → fits (used_by_queues (with_new s.queues who root name)) (used_by_keys s.keys) ≡ b → IsInLimits (record s { queues = cond b (with_new s.queues who root name) s.queues })
    at true room =
        let f = fits_from (used_by_queues (with_new s.queues who root name)) (used_by_keys s.keys) room in
        let new : Queue = record { name = name; who = who; root = root; items = [] } in
        let none : length new.items ≤ 1024 = omega arith in
        with_queues s (s.queues.queues ++ new ∷ []) l (omega (arith, f.names)) (omega (arith, f.bytes)) (All-push (λ (q : Queue). length q.items ≤ 1024) s.queues.queues new l.items none)
    at false room = l
register_step s who root name (Some k) is l =
    let x : Queue = record (queue_in s.queues k) { who = who; root = root } in
    let less : k < length s.queues.queues = omega (arith, (named_within 0 name s.queues.queues k is).1) in
    with_queues s (registered s.queues who root k).queues l (omega (arith, l.names, length-set s.queues.queues k x)) (omega (arith, l.bytes, set_queue_bytes s.queues k x less refl))
    (All-set (λ (q : Queue). length q.items ≤ 1024) s.queues.queues k x (All-get_or (λ (q : Queue). length q.items ≤ 1024) s.queues.queues k no_queue less l.items) l.items)

owed_push : (owed : List ℕ) (new id : ℕ) → owed_for owed id ≤ 1024 → (new ≡ id → owed_for owed id < 1024) → owed_for (owed ++ new ∷ []) id ≤ 1024
owed_push owed new id few room =
    let push : owed_for (owed ++ new ∷ []) id ≡ owed_for owed id + cond (new == id) 1 0 = sum_by_push (λ x. cond (x == id) 1 0) owed new in
    ⊎_elim
    (λ (e : new ≡ id). let one : cond (new == id) 1 0 ≡ 1 = ap (λ b. let n : ℕ = cond b 1 0 in n) (eq-eqb new id e) in omega (arith, push, one, room e))
    (λ (ne : new ≡ id → ⊥). let none : cond (new == id) 1 0 ≡ 0 = ap (λ b. let n : ℕ = cond b 1 0 in n) (ne_eqb new id ne) in omega (arith, push, none, few))
    (cases_eq new id)

notices_more : (owed : List ℕ) (new : ℕ) → ((id : ℕ) → owed_for owed id ≤ 1024) → (id : ℕ) → owed_for (owed_more owed new) id ≤ 1024
notices_more owed new few id = at (nat_lt (owed_for owed new) 1024) refl
  where
    at : (b : Bool) → nat_lt (owed_for owed new) 1024 ≡ b → owed_for (cond b (owed ++ new ∷ []) owed) id ≤ 1024
    at true is = owed_push owed new id (few id) (λ e. subst (λ n. owed_for owed n < 1024) e (lt_from (owed_for owed new) 1024 is))
    at false is = few id

notices_less : (q : Queues) (who id : ℕ) (owed : List ℕ) → owed_for (but_oldest q who owed) id ≤ owed_for owed id
notices_less q who id [] = omega arith
notices_less q who id (x ∷ xs) = at (is_for q who x) (notices_less q who id xs)
  where
    at : (b : Bool) → owed_for (but_oldest q who xs) id ≤ owed_for xs id → owed_for (cond b xs (x ∷ but_oldest q who xs)) id ≤ owed_for (x ∷ xs) id
    at true rest = omega (arith, sum_by-cons (λ y. cond (y == id) 1 0) x xs)
    at false rest = omega (arith, rest, sum_by-cons (λ y. cond (y == id) 1 0) x xs, sum_by-cons (λ y. cond (y == id) 1 0) x (but_oldest q who xs))

enqueue_step : (s : Store) (queue : ℕ) (item : List ℕ) (o : Option ℕ) → index_of s.queues queue ≡ o → IsInLimits s → IsInLimits (record s { queues = enqueue_after (used_by_keys s.keys) s.queues item o })
enqueue_step s queue item None is l = l
enqueue_step s queue item (Some k) is l = at (has_room_in (used_by_keys s.keys) s.queues k item) refl
  where
    at : (b : Bool) → has_room_in (used_by_keys s.keys) s.queues k item ≡ b → IsInLimits (record s { queues = cond b (record (with_item s.queues k item) { owed = owed_more s.queues.owed (id_at s.queues k) }) s.queues })
    at true room =
        let p = and_parts (nat_lt (length (queue_in s.queues k).items) 1024) (fits (used_by_queues (with_item s.queues k item)) (used_by_keys s.keys)) room in
        let f = fits_from (used_by_queues (with_item s.queues k item)) (used_by_keys s.keys) p.1 in
        let x : Queue = record (queue_in s.queues k) { items = (queue_in s.queues k).items ++ item ∷ [] } in
        let few : length x.items ≤ 1024 = omega (arith, lt_from (length (queue_in s.queues k).items) 1024 p.0, length-append (queue_in s.queues k).items (item ∷ [])) in
        record {
          names = omega (arith, f.names);
          bytes = omega (arith, f.bytes);
          numbers = l.numbers;
          items = All-set (λ (q : Queue). length q.items ≤ 1024) s.queues.queues k x few l.items;
          notices = notices_more s.queues.owed (id_at s.queues k) l.notices;
        }
    at false room = l

dequeue_step : (s : Store) (queue : ℕ) (o : Option ℕ) → index_of s.queues queue ≡ o → IsInLimits s → IsInLimits (record s { queues = dequeue_after s.queues o })
dequeue_step s queue None is l = l
dequeue_step s queue (Some k) is l = at (queue_in s.queues k).items refl
  where
    less : k < length s.queues.queues
    less = (index_is s.queues queue k is).1

    few : length (queue_in s.queues k).items ≤ 1024
    few = All-get_or (λ (q : Queue). length q.items ≤ 1024) s.queues.queues k no_queue less l.items

    at : (items : List (List ℕ)) → (queue_in s.queues k).items ≡ items → IsInLimits (record s { queues = set_queue s.queues k (record (queue_in s.queues k) { items = but_first (queue_in s.queues k).items }) })
    at [] e =
        let x : Queue = record (queue_in s.queues k) { items = but_first (queue_in s.queues k).items } in
        let same : but_first (queue_in s.queues k).items ≡ (queue_in s.queues k).items = ap but_first e ∙ sym e in
        let none : length x.items ≤ 1024 = omega (arith, few, ap length same) in
        with_queues s (set_queue s.queues k x).queues l (omega (arith, l.names, length-set s.queues.queues k x)) (omega (arith, l.bytes, set_queue_bytes s.queues k x less (λ i. length (queue_in s.queues k).name + item_sum (same i))))
        (All-set (λ (q : Queue). length q.items ≤ 1024) s.queues.queues k x none l.items)
      where
        item_sum : List (List ℕ) → ℕ
        item_sum xs = Rattle.store_model.specs.Queues.item_bytes xs
    at (item ∷ items) e =
        let x : Queue = record (queue_in s.queues k) { items = but_first (queue_in s.queues k).items } in
        let y : Queue = record (queue_in s.queues k) { items = items } in
        let same : x ≡ y = λ i. record (queue_in s.queues k) { items = ap but_first e i } in
        let fewer : length y.items ≤ 1024 = omega (arith, few, ap length e) in
        subst (λ z. IsInLimits (record s { queues = set_queue s.queues k z })) (sym same)
        (with_queues s (set_queue s.queues k y).queues l (omega (arith, l.names, length-set s.queues.queues k y)) (omega (arith, l.bytes, but_first_bytes s.queues k item items less e))
        (All-set (λ (q : Queue). length q.items ≤ 1024) s.queues.queues k y fewer l.items))

limits_step : (s : Store) (who : ℕ) (call : Call) → IsInLimits s → IsInLimits (applied s who call).store
limits_step s who (Get key) l = l
limits_step s who (Set key value number) l = set_step s key value number l
limits_step s who (Register name root) l = register_step s who root name (named s.queues name) refl l
limits_step s who (Resolve name) l = l
limits_step s who (Enqueue queue item) l = enqueue_step s queue item (index_of s.queues queue) refl l
limits_step s who (Dequeue queue) l = dequeue_step s queue (index_of s.queues queue) refl l
limits_step s who Notice l = record { names = l.names; bytes = l.bytes; numbers = l.numbers; items = l.items; notices = λ id. omega (arith, notices_less s.queues who id s.queues.owed, l.notices id) }

limits_from : (h : List Entry) (s : Store) → IsInLimits s → IsInLimits (value_from store_acts s h)
limits_from [] s l = l
limits_from (e ∷ es) s l = limits_from es (applied s e.who e.call).store (limits_step s e.who e.call l)

pub limits_hold : (vm : ℕ) (h : List Entry) → IsInLimits (store_after vm h)
limits_hold vm h =
    limits_from h (empty_store vm)
    (record { names = omega arith; bytes = omega arith; numbers = All-nil (λ (e : List ℕ × Held). e.1.number ≤ 4294967295); items = All-nil (λ (q : Queue). length q.items ≤ 1024); notices = λ id. omega arith })

-- ---- Full, exactly
full_is : (b : Bool) (r : Reply) → (r ≡ Full → ⊥) → cond b r Full ≡ Full → b ≡ false
full_is true r not h = absurd (not h)
full_is false r not h = refl

pub full_set : (s : Store) (who number : ℕ) (key value : List ℕ) → accepts s.keys key number ≡ true →
    ((applied s who (Set key value number)).reply ≡ Full) ↔ ((4294967295 < s.keys.next) ⊎ PassesLimit (used_by_keys (put s.keys key value)) (used_by_queues s.queues))
full_set s who number key value fresh =
    let a = nat_le s.keys.next 4294967295 in
    let b = fits (used_by_keys (put s.keys key value)) (used_by_queues s.queues) in
    let is : (applied s who (Set key value number)).reply ≡ cond (a && b) (Done s.keys.next) Full = ap (λ c. cond c (cond (a && b) (Done s.keys.next) Full) CasMismatch) fresh in (
      λ h. ⊎_elim
          (λ (e : a ≡ false). inl (above s.keys.next 4294967295 e))
          (λ (e : b ≡ false). inr (passes_from (used_by_keys (put s.keys key value)) (used_by_queues s.queues) e))
          (and_cases a b (full_is (a && b) (Done s.keys.next) (λ e. absurd (cc)) (sym is ∙ h))),
      λ p. is ∙ ap (λ c. cond c (Done s.keys.next) Full)
          (false_from_ne_true (a && b)
          (λ h. let t = and_parts a b h in
          ⊎_elim (λ (e : 4294967295 < s.keys.next). absurd (omega (arith, e, le_from s.keys.next 4294967295 t.0)))
          (λ (e : PassesLimit (used_by_keys (put s.keys key value)) (used_by_queues s.queues)). let f = past_from (used_by_keys (put s.keys key value)) (used_by_queues s.queues) e in absurd (cc)) p)),
    )

pub full_register : (s : Store) (who root : ℕ) (name : List ℕ) → named s.queues name ≡ None →
    ((applied s who (Register name root)).reply ≡ Full) ↔ PassesLimit (used_by_queues (with_new s.queues who root name)) (used_by_keys s.keys)
full_register s who root name new =
    let b = fits (used_by_queues (with_new s.queues who root name)) (used_by_keys s.keys) in
    let is : (applied s who (Register name root)).reply ≡ cond b (Id (id_at s.queues (length s.queues.queues))) Full = ap (λ o. register_reply (used_by_keys s.keys) s.queues who root name o) new in (
      λ h. passes_from (used_by_queues (with_new s.queues who root name)) (used_by_keys s.keys) (full_is b (Id (id_at s.queues (length s.queues.queues))) (λ e. absurd (cc)) (sym is ∙ h)),
      λ p. is ∙ ap (λ c. cond c (Id (id_at s.queues (length s.queues.queues))) Full) (past_from (used_by_queues (with_new s.queues who root name)) (used_by_keys s.keys) p),
    )

pub full_enqueue : (s : Store) (who queue k : ℕ) (item : List ℕ) → index_of s.queues queue ≡ Some k →
    ((applied s who (Enqueue queue item)).reply ≡ Full) ↔ ((1024 ≤ length (queue_in s.queues k).items) ⊎ PassesLimit (used_by_queues (with_item s.queues k item)) (used_by_keys s.keys))
full_enqueue s who queue k item there =
    let a = nat_lt (length (queue_in s.queues k).items) 1024 in
    let b = fits (used_by_queues (with_item s.queues k item)) (used_by_keys s.keys) in
    let is : (applied s who (Enqueue queue item)).reply ≡ cond (a && b) (Done 0) Full = ap (λ o. enqueue_reply (used_by_keys s.keys) s.queues item o) there in (
      λ h. ⊎_elim
          (λ (e : a ≡ false). inl (not_below (length (queue_in s.queues k).items) 1024 e))
          (λ (e : b ≡ false). inr (passes_from (used_by_queues (with_item s.queues k item)) (used_by_keys s.keys) e))
          (and_cases a b (full_is (a && b) (Done 0) (λ e. absurd (cc)) (sym is ∙ h))),
      λ p. is ∙ ap (λ c. cond c (Done 0) Full)
          (false_from_ne_true (a && b)
          (λ h. let t = and_parts a b h in
          ⊎_elim (λ (e : 1024 ≤ length (queue_in s.queues k).items). absurd (omega (arith, e, lt_from (length (queue_in s.queues k).items) 1024 t.0)))
          (λ (e : PassesLimit (used_by_queues (with_item s.queues k item)) (used_by_keys s.keys)). let f = past_from (used_by_queues (with_item s.queues k item)) (used_by_keys s.keys) e in absurd (cc)) p)),
    )

-- the calls that are not refused by a limit
get_none : (o : Option Held) → reply_of_held o ≡ Full → ⊥
get_none None h = absurd (cc)
get_none (Some x) h = absurd (cc)

set_only : (a b : Bool) (n : ℕ) → cond a (cond b (Done n) Full) CasMismatch ≡ Full → a ≡ true
set_only true b n h = refl
set_only false b n h = absurd (cc)

register_only : (other : Used) (q : Queues) (who root : ℕ) (name : List ℕ) (o : Option ℕ) → register_reply other q who root name o ≡ Full → o ≡ None
register_only other q who root name None h = refl
register_only other q who root name (Some k) h = absurd (cc)

resolve_none : (q : Queues) (o : Option ℕ) → resolve_reply q o ≡ Full → ⊥
resolve_none q None h = absurd (cc)
resolve_none q (Some k) h = absurd (cc)

enqueue_only : (other : Used) (q : Queues) (item : List ℕ) (o : Option ℕ) → enqueue_reply other q item o ≡ Full → (k : ℕ) × (o ≡ Some k)
enqueue_only other q item None h = absurd (cc)
enqueue_only other q item (Some k) h = (k, refl)

first_none : (items : List (List ℕ)) → first_reply items ≡ Full → ⊥
first_none [] h = absurd (cc)
first_none (item ∷ items) h = absurd (cc)

dequeue_none : (q : Queues) (o : Option ℕ) → dequeue_reply q o ≡ Full → ⊥
dequeue_none q None h = absurd (cc)
dequeue_none q (Some k) h = first_none (queue_in q k).items h

notice_none : (q : Queues) (o : Option ℕ) → notice_reply q o ≡ Full → ⊥
notice_none q None h = absurd (cc)
notice_none q (Some id) h = absurd (cc)

pub full_only : (s : Store) (who : ℕ) (call : Call) → (applied s who call).reply ≡ Full → MayBeFull s call
full_only s who (Get key) h = get_none (held_at s.keys key) h
full_only s who (Set key value number) h = set_only (accepts s.keys key number) (has_room_for (used_by_queues s.queues) s.keys key value) s.keys.next h
full_only s who (Register name root) h = register_only (used_by_keys s.keys) s.queues who root name (named s.queues name) h
full_only s who (Resolve name) h = resolve_none s.queues (named s.queues name) h
full_only s who (Enqueue queue item) h = enqueue_only (used_by_keys s.keys) s.queues item (index_of s.queues queue) h
full_only s who (Dequeue queue) h = dequeue_none s.queues (index_of s.queues queue) h
full_only s who Notice h = notice_none s.queues (oldest_for s.queues who s.queues.owed) h
