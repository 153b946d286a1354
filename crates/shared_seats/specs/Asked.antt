-- What workers asked from new seats, and what is left of it.
use Rattle.std.specs.Prelude.{◌≡◌, ℕ, ◌+◌, ◌<◌, ◌≤◌, List, [], ◌∷◌, ◌++◌, map, length}
use mathlib.Core.Option.{some}
use lib.ListN.{get_elem?}
use Rattle.store_model.specs.History.{entry}
use Rattle.store_model.specs.Made.{Made, MadeAsk}
use Rattle.store_model.specs.MetricLaws.{AskEntry, asks_by}
use Rattle.store_model.specs.declared.call.Reply.{Reply}
use Rattle.store_model.specs.declared.call.Reply.TheVariants as store
use Rattle.store_model.specs.declared.entry.Entry.{Entry}
use Rattle.store_model.specs.declared.metric.MetricAsk.{MetricAsk}
use Rattle.store_model.specs.declared.metric.MetricAsk.TheVariants.{Define}
use Rattle.store_model.specs.declared.metric.MetricReply.{MetricReply}
use Rattle.store_model.specs.declared.metric.MetricReply.TheVariants.{Id}
use Rattle.metric_seats.specs.Measuring.{asks_on}
use Rattle.metric_seats.specs.Places.{define_call}
use Rattle.shared_seats.specs.Moving.{SeatsGoOn}
use Rattle.shared_seats.specs.Seats.{SeatsOf, TablesOf}
use Rattle.shared_seats.specs.Workers.{AreNew}

-- what the names answered to a Define that was answered so
abbrev pub as_answer : MetricReply → Reply
as_answer (Id id) = store.Id id
as_answer _ = store.Full

-- a Define as an entry of its worker in the history of definitions; any other ask is none
abbrev pub definition_of : ℕ → MetricAsk → MetricReply → List Entry
definition_of who (Define kind name) reply = entry who (define_call kind name) (as_answer reply) ∷ []
definition_of who _ reply = []

abbrev pub definitions_by : ℕ → List MadeAsk → List Entry
definitions_by who [] = []
definitions_by who (m ∷ ms) = definition_of who m.ask m.reply ++ definitions_by who ms

-- an ask with its worker
abbrev pub asked_by : ℕ → MadeAsk → AskEntry
asked_by who m = record { who = who; ask = m.ask; reply = m.reply }

-- a worker's asks of the metrics of a VM name, among all that it made
abbrev pub asks_from : ℕ → ℕ → List Made → List AskEntry
asks_from who vm made = map (asked_by who) (asks_on vm made)

-- Workers from 1 on went on from new seats, each by what it made.
pub record AllMade (tables : TablesOf) (workers : ℕ) (made : ℕ → List Made) (old new : List SeatsOf) : Type 0 where
  pub are_new : AreNew tables workers old
  pub as_many : length new ≡ length old
  pub each : (w : ℕ) (l m : SeatsOf) → get_elem? old w ≡ some l → get_elem? new w ≡ some m → SeatsGoOn l (made (w + 1)) m

-- Asks of the metrics of a VM name by all workers, in any order in which each worker's own stand as it made them.
pub record AreMerged (workers vm : ℕ) (made : ℕ → List Made) (asks : List AskEntry) : Type 0 where
  pub own : (who : ℕ) → 1 ≤ who → who ≤ workers → asks_by who asks ≡ asks_from who vm (made who)
  pub no_others : (who : ℕ) → workers < who → asks_by who asks ≡ []
