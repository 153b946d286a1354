-- What histories say of queues, and calls of notices.
use Rattle.std.specs.Prelude.{◌≡◌, ℕ, ◌==◌, false, List, [], ◌∷◌, ◌++◌, Option, Some, None, if◌then◌else◌, All}
use Rattle.store_model.specs.Queues.{Queues, queue_in, index_of, is_for, queue_with}
use Rattle.store_model.specs.declared.call.Call.{Call}
use Rattle.store_model.specs.declared.call.Call.TheVariants.{Enqueue, Dequeue}
use Rattle.store_model.specs.declared.call.Reply.{Reply}
use Rattle.store_model.specs.declared.call.Reply.TheVariants.{Done, Item}
use Rattle.store_model.specs.declared.entry.Entry.{Entry}

-- the items of a queue; none where it is not there
abbrev pub items_at : Queues → Option ℕ → List (List ℕ)
items_at q None = []
items_at q (Some k) = (queue_in q k).items

abbrev pub items_of : Queues → ℕ → List (List ℕ)
items_of q id = items_at q (index_of q id)

-- the item that an Enqueue put in, if it was done
abbrev pub put_in : List ℕ → Reply → List (List ℕ)
put_in item (Done number) = item ∷ []
put_in item _ = []

-- the item that was handed out, if one was
abbrev pub handed_out : Reply → List (List ℕ)
handed_out (Item item) = item ∷ []
handed_out _ = []

abbrev pub enqueued_by : ℕ → Call → Reply → List (List ℕ)
enqueued_by id (Enqueue queue item) reply = if queue == id then put_in item reply else []
enqueued_by id _ reply = []

abbrev pub dequeued_by : ℕ → Call → Reply → List (List ℕ)
dequeued_by id (Dequeue queue) reply = if queue == id then handed_out reply else []
dequeued_by id _ reply = []

-- the items that a history put into the queue of this id, and those that it handed out, each in order
abbrev pub enqueued : ℕ → List Entry → List (List ℕ)
enqueued id [] = []
enqueued id (e ∷ es) = enqueued_by id e.call e.reply ++ enqueued id es

abbrev pub dequeued : ℕ → List Entry → List (List ℕ)
dequeued id [] = []
dequeued id (e ∷ es) = dequeued_by id e.call e.reply ++ dequeued id es

-- A notice for the queue of this id is the oldest one for a worker. It is taken out of those that are owed, and the others stay in order.
pub record TakesOldest (q : Queues) (who id : ℕ) (after : List ℕ) : Type 0 where
  pub earlier : List ℕ
  pub later : List ℕ
  pub owed : q.owed ≡ earlier ++ id ∷ later
  pub registrant : (queue_with q id).who ≡ who
  pub oldest : All (λ x. is_for q who x ≡ false) earlier
  pub left : after ≡ earlier ++ later
