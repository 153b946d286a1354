-- The laws of keys.
use Rattle.std.specs.Prelude.{◌≡◌, ℕ, ◌+◌, ◌&&◌, Bool, true, false, cond, List, [], ◌∷◌, ◌++◌, length, None, refl}
use Rattle.std.specs.Str.{bytes_eq}
use Rattle.std.proofs.Common.{sym, ap, subst, ◌∙◌, arith}
use Rattle.store_model.specs.Keys.{Keys, held_at, put, accepts, has_room_for, set_after, set_reply}
use Rattle.store_model.specs.Queues.{used_by_queues}
use Rattle.store_model.specs.Store.{Store, empty_store, applied}
use Rattle.store_model.specs.History.{IsLegal, IsLegalFrom, store_acts, store_after, value_from}
use Rattle.store_model.specs.KeyLaws.{held_after, was_done, last_set, drawn, drawn_by, rising}
use Rattle.store_model.specs.declared.call.Call.{Call}
use Rattle.store_model.specs.declared.call.Call.TheVariants.{Get, Set, Register, Resolve, Enqueue, Dequeue, Notice}
use Rattle.store_model.specs.declared.call.Reply.TheVariants.{Done, CasMismatch, Full}
use Rattle.store_model.specs.declared.entry.Entry.{Entry}
use Rattle.store_model.specs.declared.used.Used.{Used}
use Rattle.store_model.proofs.Entries.{lookup-insert_entry}

-- a stale number
pub stale_set : (s : Store) (who : ℕ) (key value : List ℕ) (number : ℕ) → accepts s.keys key number ≡ false → applied s who (Set key value number) ≡ record { store = s; reply = CasMismatch }
stale_set s who key value number stale =
    λ i. record {
      store = record s { keys = cond (stale i && has_room_for (used_by_queues s.queues) s.keys key value) (put s.keys key value) s.keys };
      reply = cond (stale i) (cond (has_room_for (used_by_queues s.queues) s.keys key value) (Done s.keys.next) Full) CasMismatch;
    }

-- the parts of a legal history
pub first_legal : (s : Store) (e : Entry) (es : List Entry) → IsLegalFrom store_acts s (e ∷ es) → e.reply ≡ (applied s e.who e.call).reply
first_legal s e es legal = cc

pub rest_legal : (s : Store) (e : Entry) (es : List Entry) → IsLegalFrom store_acts s (e ∷ es) → IsLegalFrom store_acts (applied s e.who e.call).store es
rest_legal s e es legal = cc

-- what a Set leaves under a key
set_step : (other : Used) (d : Keys) (key k value : List ℕ) (number : ℕ) →
    held_at (set_after other d k value number) key ≡ cond (bytes_eq key k) (was_done (held_at d key) value (set_reply other d k value number)) (held_at d key)
set_step other d key k value number = at (accepts d k number) (has_room_for other d k value)
  where
    same : (b : Bool) → held_at d key ≡ cond b (held_at d key) (held_at d key)
    same true = refl
    same false = refl

    at : (a r : Bool) →
        held_at (cond (a && r) (put d k value) d) key ≡ cond (bytes_eq key k) (was_done (held_at d key) value (cond a (cond r (Done d.next) Full) CasMismatch)) (held_at d key)
    at true true = lookup-insert_entry d.entries k key (record { value = value; number = d.next })
    at true false = same (bytes_eq key k)
    at false r = same (bytes_eq key k)

held_step : (s : Store) (who : ℕ) (key : List ℕ) (call : Call) → held_at (applied s who call).store.keys key ≡ held_after key (held_at s.keys key) call (applied s who call).reply
held_step s who key (Get k) = refl
held_step s who key (Set k value number) = set_step (used_by_queues s.queues) s.keys key k value number
held_step s who key (Register name root) = refl
held_step s who key (Resolve name) = refl
held_step s who key (Enqueue queue item) = refl
held_step s who key (Dequeue queue) = refl
held_step s who key Notice = refl

held_from : (h : List Entry) (s : Store) (key : List ℕ) → IsLegalFrom store_acts s h → held_at (value_from store_acts s h).keys key ≡ last_set key (held_at s.keys key) h
held_from [] s key legal = refl
held_from (e ∷ es) s key legal =
    held_from es (applied s e.who e.call).store key (rest_legal s e es legal)
    ∙ ap (λ was. last_set key was es) (held_step s e.who key e.call ∙ ap (held_after key (held_at s.keys key) e.call) (sym (first_legal s e es legal)))

pub held_is_last_set : (vm : ℕ) (h : List Entry) (key : List ℕ) → IsLegal vm h → held_at (store_after vm h).keys key ≡ last_set key None h
held_is_last_set vm h key legal = held_from h (empty_store vm) key legal

-- ---- numbers
-- these are the numbers from n on, and m is the next one
record Counts (n : ℕ) (xs : List ℕ) (m : ℕ) : Type 0 where
  pub all : xs ≡ rising n (length xs)
  pub next : m ≡ n + length xs

counts_none : (n : ℕ) → Counts n [] n
counts_none n = record { all = refl; next = omega arith }

counts_one : (n : ℕ) → Counts n (n ∷ []) (n + 1)
counts_one n = record { all = refl; next = omega arith }

rising_first : (n m : ℕ) (xs : List ℕ) → Counts (n + 1) xs m → Counts n (n ∷ xs) m
rising_first n m xs c = record { all = ap (λ (l : List ℕ). n ∷ l) c.all; next = omega (arith, c.next) }

set_counts : (other : Used) (d : Keys) (key value : List ℕ) (number : ℕ) → Counts d.next (drawn_by (Set key value number) (set_reply other d key value number)) (set_after other d key value number).next
set_counts other d key value number = at (accepts d key number) (has_room_for other d key value)
  where
    at : (a r : Bool) → Counts d.next (drawn_by (Set key value number) (cond a (cond r (Done d.next) Full) CasMismatch)) (cond (a && r) (put d key value) d).next
    at true true = counts_one d.next
    at true false = counts_none d.next
    at false r = counts_none d.next

counts_step : (s : Store) (who : ℕ) (call : Call) → Counts s.keys.next (drawn_by call (applied s who call).reply) (applied s who call).store.keys.next
counts_step s who (Get k) = counts_none s.keys.next
counts_step s who (Set k value number) = set_counts (used_by_queues s.queues) s.keys k value number
counts_step s who (Register name root) = counts_none s.keys.next
counts_step s who (Resolve name) = counts_none s.keys.next
counts_step s who (Enqueue queue item) = counts_none s.keys.next
counts_step s who (Dequeue queue) = counts_none s.keys.next
counts_step s who Notice = counts_none s.keys.next

counts_join : (n m k : ℕ) (xs ys : List ℕ) → Counts n xs m → Counts m ys k → Counts n (xs ++ ys) k
counts_join n m k [] ys a b = subst (λ x. Counts x ys k) (omega (arith, a.next)) b
counts_join n m k (x ∷ xs) ys a b =
    let first : x ≡ n = cc (a.all) in
    let others : xs ≡ rising (n + 1) (length xs) = cc (a.all) in
    let tail : Counts (n + 1) xs m = record { all = others; next = omega (arith, a.next) } in
    subst (λ y. Counts n (y ∷ (xs ++ ys)) k) (sym first) (rising_first n k (xs ++ ys) (counts_join (n + 1) m k xs ys tail b))

counts_from : (h : List Entry) (s : Store) → IsLegalFrom store_acts s h → Counts s.keys.next (drawn h) (value_from store_acts s h).keys.next
counts_from [] s legal = counts_none s.keys.next
counts_from (e ∷ es) s legal =
    counts_join _ _ _ _ _ (subst (λ r. Counts s.keys.next (drawn_by e.call r) (applied s e.who e.call).store.keys.next) (sym (first_legal s e es legal)) (counts_step s e.who e.call))
    (counts_from es (applied s e.who e.call).store (rest_legal s e es legal))

pub numbers_rise : (vm : ℕ) (h : List Entry) → IsLegal vm h → drawn h ≡ rising 1 (length (drawn h))
numbers_rise vm h legal = (counts_from h (empty_store vm) legal).all
