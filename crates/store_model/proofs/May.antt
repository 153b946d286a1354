-- Each reply is one that its call may have.
use Rattle.std.specs.Prelude.{◌≡◌, ℕ, ◌+◌, ◌*◌, ◌≤◌, ◌<◌, Bool, true, false, cond, List, [], ◌∷◌, length, Option, Some, None, refl}
use Rattle.std.proofs.Common.{ap, ◌∙◌, arith}
use Rattle.std.proofs.lemmas.List.Sums.{get_or-le-sum_by}
use Rattle.store_model.specs.Limits.{IsWithin, fits}
use Rattle.store_model.specs.Keys.{Held, Keys, held_at, get_reply, reply_of_held, accepts, has_room_for, set_reply, used_by_keys}
use Rattle.store_model.specs.Queues.{Queue, Queues, no_queue, index_of, queue_in, used_by_queues, with_new, has_room_in, first_reply, register_reply, resolve_reply, enqueue_reply, dequeue_reply, notice_reply, item_bytes}
use Rattle.store_model.specs.Replies.{IsGetReply, IsSetReply, IsRegisterReply, IsResolveReply, IsEnqueueReply, IsDequeueReply, IsNoticeReply}
use Rattle.store_model.specs.declared.call.Reply.TheVariants.{Done, CasMismatch, Full, Id}
use Rattle.store_model.specs.declared.used.Used.{Used}
use Rattle.store_model.proofs.Entries.{held_within, old_bytes, entry_bytes}
use Rattle.store_model.proofs.Queues.{index_is}
use Rattle.store_model.proofs.Uses.{uses, items-cons}

pub get_may : (d : Keys) (key : List ℕ) → IsWithin (used_by_keys d) → IsGetReply (get_reply d key)
get_may d key within = at (held_at d key) (held_within d.entries key)
  where
    at : (o : Option Held) → old_bytes key o ≤ entry_bytes d.entries → IsGetReply (reply_of_held o)
    at None h = tt
    at (Some x) h = let fit : length x.value ≤ 67108864 = omega (arith, h, within.bytes) in fit

pub set_may : (other : Used) (d : Keys) (key value : List ℕ) (number : ℕ) → IsSetReply (set_reply other d key value number)
set_may other d key value number = at (accepts d key number) (has_room_for other d key value)
  where
    at : (a r : Bool) → IsSetReply (cond a (cond r (Done d.next) Full) CasMismatch)
    at true true = tt
    at true false = tt
    at false r = tt

pub register_may : (other : Used) (q : Queues) (who root : ℕ) (name : List ℕ) (o : Option ℕ) → IsRegisterReply (register_reply other q who root name o)
register_may other q who root name (Some k) = tt
register_may other q who root name None = at (fits (used_by_queues (with_new q who root name)) other) (length q.queues)
  where
    at : (b : Bool) (n : ℕ) → IsRegisterReply (cond b (Id (q.vm * 16777216 + n + 1)) Full)
    at true n = tt
    at false n = tt

pub resolve_may : (q : Queues) (o : Option ℕ) → IsResolveReply (resolve_reply q o)
resolve_may q None = tt
resolve_may q (Some k) = tt

pub enqueue_may : (other : Used) (q : Queues) (item : List ℕ) (o : Option ℕ) → IsEnqueueReply (enqueue_reply other q item o)
enqueue_may other q item None = tt
enqueue_may other q item (Some k) = at (has_room_in other q k item)
  where
    at : (b : Bool) → IsEnqueueReply (cond b (Done 0) Full)
    at true = refl
    at false = tt

pub dequeue_may : (q : Queues) (id : ℕ) → IsWithin (used_by_queues q) → IsDequeueReply (dequeue_reply q (index_of q id))
dequeue_may q id within = at (index_of q id) (λ k is. (index_is q id k is).1)
  where
    first : (k : ℕ) (items : List (List ℕ)) → (queue_in q k).items ≡ items → length (queue_in q k).name + item_bytes (queue_in q k).items ≤ uses q.queues → IsDequeueReply (first_reply items)
    first k [] is h = tt
    first k (item ∷ items) is h = let fit : length item ≤ 67108864 = omega (arith, h, within.bytes, ap item_bytes is ∙ items-cons item items) in fit

    at : (o : Option ℕ) → ((k : ℕ) → o ≡ Some k → k < length q.queues) → IsDequeueReply (dequeue_reply q o)
    at None h = tt
    at (Some k) h = first k (queue_in q k).items refl (get_or-le-sum_by (λ (x : Queue). length x.name + item_bytes x.items) q.queues k no_queue (h k refl))

pub notice_may : (q : Queues) (o : Option ℕ) → IsNoticeReply (notice_reply q o)
notice_may q None = tt
notice_may q (Some id) = tt
