-- The queues of one store, and the notices that it owes.
use Rattle.std.specs.Prelude.{ℕ, ◌+◌, ◌-◌, ◌*◌, ◌==◌, ◌&&◌, Bool, List, [], ◌∷◌, ◌++◌, length, sum_by, count_by, Option, Some, None, nat_le, nat_lt, if◌then◌else◌, slice_index_or, slice_set}
use Rattle.std.specs.Str.{bytes_eq}
use Rattle.store_model.specs.Limits.{fits}
use Rattle.store_model.specs.declared.used.Used.{Used}
use Rattle.store_model.specs.declared.used.TheConstants.{MOST_ITEMS, MOST_NOTICES}
use Rattle.store_model.specs.declared.call.Reply.{Reply}
use Rattle.store_model.specs.declared.call.Reply.TheVariants.{Absent, Done, Full, Id, Item, Empty, Owed, NoneOwed}

-- a queue: its name, the worker and the root that registered it last, and its items, the first one first
pub record Queue : Type 0 where
  pub name : List ℕ
  pub who : ℕ
  pub root : ℕ
  pub items : List (List ℕ)

-- the number of the store, its queues in the order in which they were made, and the ids of the queues for which a notice is owed, oldest first
pub record Queues : Type 0 where
  pub vm : ℕ
  pub queues : List Queue
  pub owed : List ℕ

abbrev pub no_queues : ℕ → Queues
no_queues vm = record { vm = vm; queues = []; owed = [] }

abbrev pub no_queue : Queue
no_queue = record { name = []; who = 0; root = 0; items = [] }

-- An id is the store's number times 2^24 and the queue's place from 1.
abbrev pub base_of : ℕ → ℕ
base_of vm = vm * 16777216

abbrev pub id_at : Queues → ℕ → ℕ
id_at q k = base_of q.vm + k + 1

-- the index of the queue with this id, if it is one of this store
abbrev pub index_of : Queues → ℕ → Option ℕ
index_of q id = if nat_lt (base_of q.vm) id && nat_le id (base_of q.vm + length q.queues) then Some (id - base_of q.vm - 1) else None

-- the index of the queue with this name, counted from n
abbrev pub named_from : ℕ → List ℕ → List Queue → Option ℕ
named_from n name [] = None
named_from n name (q ∷ qs) = if bytes_eq name q.name then Some n else named_from (n + 1) name qs

abbrev pub named : Queues → List ℕ → Option ℕ
named q name = named_from 0 name q.queues

abbrev pub queue_in : Queues → ℕ → Queue
queue_in q k = slice_index_or q.queues k no_queue

abbrev pub set_queue : Queues → ℕ → Queue → Queues
set_queue q k queue = record q { queues = slice_set q.queues k queue }

abbrev pub item_bytes : List (List ℕ) → ℕ
item_bytes items = sum_by length items

-- how many queues, and the bytes of names and items
abbrev pub used_by_queues : Queues → Used
used_by_queues q = record { names = length q.queues; bytes = sum_by (λ x. length x.name + item_bytes x.items) q.queues }

-- how many items stand in all queues
abbrev pub item_count_of : Queues → ℕ
item_count_of q = sum_by (λ x. length x.items) q.queues

-- Register: a new name makes an empty queue, where the limits leave room
abbrev pub with_new : Queues → ℕ → ℕ → List ℕ → Queues
with_new q who root name = record q { queues = q.queues ++ record { name = name; who = who; root = root; items = [] } ∷ [] }

abbrev pub registered : Queues → ℕ → ℕ → ℕ → Queues
registered q who root k = set_queue q k (record (queue_in q k) { who = who; root = root })

abbrev pub register_reply : Used → Queues → ℕ → ℕ → List ℕ → Option ℕ → Reply
register_reply other q who root name None = if fits (used_by_queues (with_new q who root name)) other then Id (id_at q (length q.queues)) else Full
register_reply other q who root name (Some k) = Id (id_at q k)

abbrev pub register_after : Used → Queues → ℕ → ℕ → List ℕ → Option ℕ → Queues
register_after other q who root name None = if fits (used_by_queues (with_new q who root name)) other then with_new q who root name else q
register_after other q who root name (Some k) = registered q who root k

-- Resolve
abbrev pub resolve_reply : Queues → Option ℕ → Reply
resolve_reply q None = Absent
resolve_reply q (Some k) = Id (id_at q k)

-- Enqueue: the item goes last, and one more notice is owed where not too many are
abbrev pub with_item : Queues → ℕ → List ℕ → Queues
with_item q k item = set_queue q k (record (queue_in q k) { items = (queue_in q k).items ++ item ∷ [] })

abbrev pub owed_for : List ℕ → ℕ → ℕ
owed_for owed id = count_by (λ x. x == id) owed

abbrev pub owed_more : List ℕ → ℕ → List ℕ
owed_more owed id = if nat_lt (owed_for owed id) MOST_NOTICES then owed ++ id ∷ [] else owed

abbrev pub has_room_in : Used → Queues → ℕ → List ℕ → Bool
has_room_in other q k item = nat_lt (length (queue_in q k).items) MOST_ITEMS && fits (used_by_queues (with_item q k item)) other

abbrev pub enqueue_reply : Used → Queues → List ℕ → Option ℕ → Reply
enqueue_reply other q item None = Absent
enqueue_reply other q item (Some k) = if has_room_in other q k item then Done 0 else Full

abbrev pub enqueue_after : Used → Queues → List ℕ → Option ℕ → Queues
enqueue_after other q item None = q
enqueue_after other q item (Some k) = if has_room_in other q k item then record (with_item q k item) { owed = owed_more q.owed (id_at q k) } else q

-- Dequeue: the first item
abbrev pub first_reply : List (List ℕ) → Reply
first_reply [] = Empty
first_reply (item ∷ items) = Item item

abbrev pub but_first : List (List ℕ) → List (List ℕ)
but_first [] = []
but_first (item ∷ items) = items

abbrev pub dequeue_reply : Queues → Option ℕ → Reply
dequeue_reply q None = Absent
dequeue_reply q (Some k) = first_reply (queue_in q k).items

abbrev pub dequeue_after : Queues → Option ℕ → Queues
dequeue_after q None = q
dequeue_after q (Some k) = set_queue q k (record (queue_in q k) { items = but_first (queue_in q k).items })

-- Notice: the oldest whose queue's registrant now is this worker
abbrev pub queue_with : Queues → ℕ → Queue
queue_with q id = queue_in q (id - base_of q.vm - 1)

abbrev pub is_for : Queues → ℕ → ℕ → Bool
is_for q who id = (queue_with q id).who == who

abbrev pub oldest_for : Queues → ℕ → List ℕ → Option ℕ
oldest_for q who [] = None
oldest_for q who (id ∷ ids) = if is_for q who id then Some id else oldest_for q who ids

abbrev pub but_oldest : Queues → ℕ → List ℕ → List ℕ
but_oldest q who [] = []
but_oldest q who (id ∷ ids) = if is_for q who id then ids else id ∷ but_oldest q who ids

abbrev pub notice_reply : Queues → Option ℕ → Reply
notice_reply q None = NoneOwed
notice_reply q (Some id) = Owed (queue_with q id).root id

abbrev pub notice_after : Queues → ℕ → Queues
notice_after q who = record q { owed = but_oldest q who q.owed }
