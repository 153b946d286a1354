-- What the asks of a VM name's metrics come to.
use Rattle.std.specs.Prelude.{ℕ, ◌+◌, ◌%◌, ◌^◌, ◌==◌, List, [], ◌∷◌, map, Bool, true, false, sum, if◌then◌else◌, ℤ, pos, negsuc}
use Rattle.std.specs.List.{filter}
use Rattle.std.specs.Int.{w64, cast_unsigned}
use Rattle.store_model.specs.MetricNames.{metric_name}
use Rattle.store_model.specs.declared.metric.Metric.{Metric}
use Rattle.store_model.specs.declared.metric.MetricAsk.{MetricAsk}
use Rattle.store_model.specs.declared.metric.MetricAsk.TheVariants.{Define, Add, Put, Sum}
use Rattle.store_model.specs.declared.metric.MetricKind.{MetricKind}
use Rattle.store_model.specs.declared.metric.MetricKind.TheVariants.{Counter, Gauge}
use Rattle.store_model.specs.declared.metric.MetricName.{MetricName}
use Rattle.store_model.specs.declared.metric.MetricReply.{MetricReply}
use Rattle.store_model.specs.declared.metric.MetricReply.TheVariants.{NotBuilt, Unknown, BadKind, Full, Id, Done}
use Rattle.store_model.specs.declared.call.Reply.{Reply}
use Rattle.store_model.specs.declared.call.Reply.TheVariants as store

-- an ask of the metrics of a VM name: who asked, what, and what it was answered
pub record AskEntry : Type 0 where
  pub who : ℕ
  pub ask : MetricAsk
  pub reply : MetricReply

-- the asks of one worker
abbrev pub asks_by : ℕ → List AskEntry → List AskEntry
asks_by who asks = filter (λ a. a.who == who) asks

abbrev pub is_done : MetricReply → Bool
is_done Done = true
is_done _ = false

-- what a counter rises by
abbrev pub rise_of : ℤ → ℕ
rise_of (pos n) = n
rise_of (negsuc n) = 0

-- a word after an Add or a Put that was done
abbrev pub word_done : MetricKind → ℕ → MetricAsk → ℕ
word_done Counter word (Add id by) = word + rise_of by
word_done Counter word (Put id value) = word + value
word_done Gauge word (Add id by) = (word + cast_unsigned w64 by) % 2 ^ 64
word_done Gauge word (Put id value) = value
word_done kind word _ = word

-- the id that an ask is about, or 0
abbrev pub id_of : MetricAsk → ℕ
id_of (Define kind name) = 0
id_of (Add id by) = id
id_of (Put id value) = id
id_of (Sum id) = id

-- a worker's word of a metric after its asks, from what it was: those that were done count, in order
abbrev pub word_from : MetricKind → ℕ → ℕ → List AskEntry → ℕ
word_from kind id word [] = word
word_from kind id word (a ∷ es) = word_from kind id (if id_of a.ask == id then (if is_done a.reply then word_done kind word a.ask else word) else word) es

abbrev pub word_of : MetricKind → ℕ → List AskEntry → ℕ
word_of kind id asks = word_from kind id 0 asks

-- THE TOTAL of a metric over the asks of all workers, 1 to 8: the sum of their words, modulo 2^64
abbrev pub workers : List ℕ
workers = 1 ∷ 2 ∷ 3 ∷ 4 ∷ 5 ∷ 6 ∷ 7 ∷ 8 ∷ []

abbrev pub totals_of : MetricKind → ℕ → List AskEntry → ℕ
totals_of kind id asks = sum (map (λ who. word_of kind id (asks_by who asks)) workers) % 2 ^ 64

-- what one ask made a counter rise by
abbrev pub rise_by : ℕ → AskEntry → ℕ
rise_by id a = if id_of a.ask == id then (if is_done a.reply then word_done Counter 0 a.ask else 0) else 0

-- what asks made a counter rise by in all
abbrev pub rise_in_all : ℕ → List AskEntry → ℕ
rise_in_all id [] = 0
rise_in_all id (a ∷ es) = rise_by id a + rise_in_all id es

-- the replies that refuse
abbrev pub IsRefusedAsk : MetricReply → Type 0
IsRefusedAsk NotBuilt = Unit {0}
IsRefusedAsk Unknown = Unit {0}
IsRefusedAsk BadKind = Unit {0}
IsRefusedAsk Full = Unit {0}
IsRefusedAsk _ = ⊥

-- the kinds and names of metrics
abbrev pub names_of : List Metric → List MetricName
names_of ms = map (λ m. metric_name m.kind m.name) ms

-- what a Define is answered, by what the names answer
abbrev pub as_metric_reply : Reply → MetricReply
as_metric_reply (store.Id id) = Id id
as_metric_reply _ = Full
