-- A worker's place at the metrics of a VM name, and what each ask makes of it.
use Rattle.std.specs.Prelude.{◌≡◌, ℕ, suc, ◌%◌, ◌^◌, ◌<◌, ◌≤◌, List, [], ◌∷◌, ◌++◌, length, map, sum, Option, Some, None, slice_index, slice_set}
use Rattle.atomic_table.specs.Seated.{TableId}
use Rattle.metric_table.specs.Places.{column_of, last_seen, place_of}
use mathlib.Core.List.{IsPrefix}
use Rattle.metric_table.specs.Seats.{Counting}
use Rattle.metric_table.specs.Seats as counting
use Rattle.metric_table.specs.Steps.{look_at}
use Rattle.metric_table.specs.declared.view.Look.{Look}
use Rattle.store_model.specs.History.{own}
use Rattle.store_model.specs.MetricLaws.{as_metric_reply}
use Rattle.store_model.specs.MetricNames.{defining, names_acts}
use Rattle.store_model.specs.Metrics.{raised, word_after, word_reply}
use Rattle.store_model.specs.declared.call.Call.{Call}
use Rattle.store_model.specs.declared.call.Call.TheVariants.{Register}
use Rattle.store_model.specs.declared.call.Reply.{Reply}
use Rattle.store_model.specs.declared.metric.MetricAsk.{MetricAsk}
use Rattle.store_model.specs.declared.metric.MetricAsk.TheVariants.{Define, Add, Put, Sum}
use Rattle.store_model.specs.declared.metric.MetricKind.{MetricKind}
use Rattle.store_model.specs.declared.metric.MetricKind.TheVariants.{Counter}
use Rattle.store_model.specs.declared.metric.MetricReply.{MetricReply}
use Rattle.store_model.specs.declared.metric.MetricReply.TheVariants.{Unknown, Total}
use Rattle.store_model.specs.declared.entry.Entry.{Entry}
use Rattle.turn_table.specs.Histories.{IsLegalFor}
use Rattle.turn_table.specs.Seats.{Seated, TurnTableId, Called, IsSameSeat, Joined, first_seat, next_seat}
use Rattle.metric_seats.specs.Knowing.{kind_of, known_by}

-- the tables of a VM name's metrics
pub record MetricTableId : Type 0 where
  pub names : TurnTableId
  pub words : TableId

-- a worker's place at them: its seat at the names, and that at the words
pub record Metered : Type 0 where
  pub names : Seated
  pub words : Counting

abbrev pub tables_of : Metered → MetricTableId
tables_of v = record { names = v.names.table; words = v.words.table }

-- the kind of an id that this worker got, in whichever of its lives
abbrev pub kind_for : Metered → ℕ → Option MetricKind
kind_for v id = kind_of (known_by (own v.names.number v.names.seen)) id

-- the call that defines a metric
abbrev pub define_call : MetricKind → List ℕ → Call
define_call kind name = Register (defining kind name) 0

-- A Define is a call in the one legal history of definitions, and the metric's id is the queue's that the call is answered with. No word changes.
pub record Defined (v : Metered) (kind : MetricKind) (name : List ℕ) (reply : MetricReply) (w : Metered) : Type 0 where
  pub words : w.words ≡ v.words
  pub same : IsSameSeat v.names w.names
  pub answer : Reply
  pub called : Called names_acts v.names w.names (define_call kind name) answer
  pub reply_is : reply ≡ as_metric_reply answer

-- the own word of a metric
abbrev pub own_word : Metered → MetricKind → ℕ → ℕ
own_word v kind id = slice_index v.words.own (column_of kind id)

-- An Add or a Put reads the own word, changes no other one, and is answered by the rules.
abbrev pub counted_words : Counting → MetricKind → ℕ → MetricAsk → Counting
counted_words v kind id ask = record v {
  own = slice_set v.own (column_of kind id) (word_after kind (slice_index v.own (column_of kind id)) ask);
  looks = v.looks ++ look_at (place_of v.number kind id) (slice_index v.own (column_of kind id)) ∷ [];
}

pub record Counted (v : Metered) (kind : MetricKind) (id : ℕ) (ask : MetricAsk) (reply : MetricReply) (w : Metered) : Type 0 where
  pub names : w.names ≡ v.names
  pub words : w.words ≡ counted_words v.words kind id ask
  pub reply_is : reply ≡ word_reply kind (own_word v kind id) ask

-- one look at each worker's word of a metric, from a worker on
abbrev pub looks_over : MetricKind → ℕ → ℕ → List ℕ → List Look
looks_over kind id who [] = []
looks_over kind id who (r ∷ rs) = look_at (place_of who kind id) r ∷ looks_over kind id (suc who) rs

-- what was read of a metric, from worker 1 on: of the own word its value, and of a counter no less than this seat had seen of it
pub record Reads (v : Counting) (kind : MetricKind) (id : ℕ) (values : List ℕ) : Type 0 where
  pub own : (k : ℕ) → k < length values → suc k ≡ v.number → slice_index values k ≡ slice_index v.own (column_of kind id)
  pub rises : (k : ℕ) → k < length values → kind ≡ Counter → last_seen (place_of (suc k) Counter id) v.looks ≤ slice_index values k

-- A Sum makes one look at the word of each of the workers 1 to 8, and is the sum of what it read, modulo 2^64.
pub record Summed (v : Metered) (kind : MetricKind) (id : ℕ) (reply : MetricReply) (w : Metered) : Type 0 where
  pub names : w.names ≡ v.names
  pub values : List ℕ
  pub as_many : length values ≡ 8
  pub words : w.words ≡ record v.words { looks = v.words.looks ++ looks_over kind id 1 values }
  pub reads : Reads v.words kind id values
  pub reply_is : reply ≡ Total (sum values % 2 ^ 64)

-- an id that the worker did not get is unknown, and nothing changes
pub record IsUnknown (v : Metered) (reply : MetricReply) (w : Metered) : Type 0 where
  pub place : w ≡ v
  pub reply_is : reply ≡ Unknown

abbrev pub CountedIf : Option MetricKind → Metered → ℕ → MetricAsk → MetricReply → Metered → Type 0
CountedIf (Some kind) v id ask reply w = Counted v kind id ask reply w
CountedIf None v id ask reply w = IsUnknown v reply w

abbrev pub SummedIf : Option MetricKind → Metered → ℕ → MetricReply → Metered → Type 0
SummedIf (Some kind) v id reply w = Summed v kind id reply w
SummedIf None v id reply w = IsUnknown v reply w

-- ONE ASK from the place v, which is w after it
abbrev pub Asked : Metered → MetricAsk → MetricReply → Metered → Type 0
Asked v (Define kind name) reply w = Defined v kind name reply w
Asked v (Add id by) reply w = CountedIf (kind_for v id) v id (Add id by) reply w
Asked v (Put id value) reply w = CountedIf (kind_for v id) v id (Put id value) reply w
Asked v (Sum id) reply w = SummedIf (kind_for v id) v id reply w

-- both seats are of one worker, and gave out and took back the same numbers
pub record AreOne (names : Seated) (words : Counting) : Type 0 where
  pub number : names.number ≡ words.number
  pub given : names.given ≡ words.given
  pub ended : map (λ e. e.number) names.ended ≡ map (λ e. e.number) words.ended

-- worker 1's place at new tables
abbrev pub first_place : MetricTableId → Metered
first_place t = record { names = first_seat t.names; words = counting.first_seat t.words }

-- the place of the next worker
abbrev pub next_place : Metered → Metered
next_place v = record { names = next_seat v.names; words = counting.next_seat v.words }

-- the place is as before, but for the entries that were seen, the own values and the looks
abbrev pub IsSamePlace : Metered → Metered → Type 0
IsSamePlace v w = IsSameSeat v.names w.names × (w.words ≡ record v.words { own = w.words.own; looks = w.words.looks })

-- a place was joined into worker 1's
pub record PlacesJoined (v u w : Metered) : Type 0 where
  pub names : Joined names_acts v.names u.names w.names
  pub words : counting.Joined v.words u.words w.words

-- A seat at the names goes on by these entries of its own, and by any of others: what it had seen begins what it has seen, which is legal where the former was.
pub record NamesGoOn (v w : Seated) (entries : List Entry) : Type 0 where
  pub same : IsSameSeat v w
  pub begins : IsPrefix v.seen w.seen
  pub legal : IsLegalFor names_acts v.table.vm v.seen → IsLegalFor names_acts w.table.vm w.seen
  pub own_are : own v.number w.seen ≡ own v.number v.seen ++ entries

-- nothing was asked, though definitions of others may have been seen
pub record PlaceStays (v w : Metered) : Type 0 where
  pub names : NamesGoOn v.names w.names []
  pub words : w.words ≡ v.words

-- a place after a look at the own word
abbrev pub looked_own : Metered → MetricKind → ℕ → Metered
looked_own v kind id = record v { words = record v.words { looks = v.words.looks ++ look_at (place_of v.words.number kind id) (own_word v kind id) ∷ [] } }

-- a place after the own word of a counter was read, and raised where there was room
abbrev pub raised_own : Metered → ℕ → ℕ → Metered
raised_own v id by = record v {
  words = record v.words {
    own = slice_set v.words.own (column_of Counter id) (raised (own_word v Counter id) by);
    looks = v.words.looks ++ look_at (place_of v.words.number Counter id) (own_word v Counter id) ∷ [];
  };
}

-- the asks that take no memory: all but a Define
abbrev pub IsCount : MetricAsk → Type 0
IsCount (Define kind name) = ⊥
IsCount _ = Unit {0}
