-- Worked examples: two workers define, count and ask, and what is left of it.
use Rattle.std.specs.Prelude.{◌≡◌, ℕ, zero, suc, List, [], ◌∷◌, slice_index, pos, negsuc}
use mathlib.Core.Option.{some}
use lib.ListN.{get_elem?}
use Rattle.store_model.specs.History.{entry, own}
use Rattle.store_model.specs.Made.{Made, made_ask}
use Rattle.store_model.specs.MetricLaws.{AskEntry, totals_of}
use Rattle.store_model.specs.MetricNames.{metric_name, names_acts}
use Rattle.store_model.specs.declared.call.Reply.TheVariants as store
use Rattle.store_model.specs.declared.entry.Entry.{Entry}
use Rattle.store_model.specs.declared.metric.MetricAsk.{MetricAsk}
use Rattle.store_model.specs.declared.metric.MetricAsk.TheVariants.{Define, Add, Put, Sum}
use Rattle.store_model.specs.declared.metric.MetricKind.TheVariants.{Counter, Gauge}
use Rattle.store_model.specs.declared.metric.MetricReply.{MetricReply}
use Rattle.store_model.specs.declared.metric.MetricReply.TheVariants.{Unknown, BadKind, Id, Done, Total}
use Rattle.turn_table.specs.Histories.{value_after, IsLegalFor}
use Rattle.metric_seats.specs.Measuring.{asks_on}
use Rattle.metric_seats.specs.Places.{Metered, define_call}
use Rattle.metric_seats.specs.declared.table.MetricsClosed.{MetricsClosed}
use Rattle.shared_seats.specs.Asked.{AreMerged, definitions_by}
use Rattle.shared_seats.specs.Seats.{SeatsOf}
use Rattle.shared_seats.specs.Workers.{HasMetrics}

-- the name "n"
abbrev pub name_n : List ℕ
name_n = 110 ∷ []

-- Both workers define the counter "n", the second a gauge of this name too, and both count.
abbrev pub made_by_two : ℕ → List Made
made_by_two (suc zero) = made_ask 0 (Define Counter name_n) (Id 1) ∷ made_ask 0 (Add 1 (pos 5)) Done ∷ made_ask 0 (Sum 1) (Total 12) ∷ made_ask 0 (Put 2 3) Unknown ∷ []
made_by_two (suc (suc zero)) = made_ask 0 (Define Counter name_n) (Id 1) ∷ made_ask 0 (Define Gauge name_n) (Id 2) ∷ made_ask 0 (Add 1 (pos 7)) Done ∷ made_ask 0 (Add 1 (negsuc 0)) BadKind ∷ made_ask 0 (Put 2 9) Done ∷ []
made_by_two _ = []

abbrev pub from : ℕ → MetricAsk → MetricReply → AskEntry
from who asked reply = record { who = who; ask = asked; reply = reply }

-- their asks in one order of several
abbrev pub asks_of_two : List AskEntry
asks_of_two =
    from 1 (Define Counter name_n) (Id 1) ∷ from 2 (Define Counter name_n) (Id 1) ∷ from 2 (Define Gauge name_n) (Id 2) ∷ from 1 (Add 1 (pos 5)) Done ∷ from 2 (Add 1 (pos 7)) Done ∷ from 1 (Sum 1) (Total 12) ∷ from 2 (Add 1 (negsuc 0)) BadKind ∷ from 1 (Put 2 3) Unknown ∷ from 2 (Put 2 9) Done ∷ []

-- The counter comes to what both added, and the gauge to what the second worker put.
abbrev pub totals_of_two : Type 0
totals_of_two = AreMerged 2 0 made_by_two asks_of_two × (totals_of Counter 1 asks_of_two ≡ 12) × (totals_of Gauge 2 asks_of_two ≡ 9)

-- their definitions in one order of several
abbrev pub history_of_two : List Entry
history_of_two = entry 1 (define_call Counter name_n) (store.Id 1) ∷ entry 2 (define_call Counter name_n) (store.Id 1) ∷ entry 2 (define_call Gauge name_n) (store.Id 2) ∷ []

-- The history is legal and leaves both names, and the second worker's definitions are its entries.
abbrev pub names_of_two : Type 0
names_of_two =
    IsLegalFor names_acts 0 history_of_two × ((value_after names_acts 0 history_of_two).names ≡ metric_name Counter name_n ∷ metric_name Gauge name_n ∷ [])
    × (own 2 history_of_two ≡ definitions_by 2 (asks_on 0 (made_by_two 2)))

-- a known name has no second id
abbrev pub second_id : Type 0
second_id = IsLegalFor names_acts 0 (entry 1 (define_call Counter name_n) (store.Id 1) ∷ entry 2 (define_call Counter name_n) (store.Id 2) ∷ []) → ⊥

-- a worker that had no seats has no word
abbrev pub word_of_nobody : Type 0
word_of_nobody = (l : SeatsOf) (c : MetricsClosed) → slice_index c.totals 128 ≡ 7 → HasMetrics 0 (l ∷ []) c → ⊥

-- a word is not told twice as high as it was counted
abbrev pub word_told_twice : Type 0
word_told_twice = (l : SeatsOf) (v : Metered) (c : MetricsClosed) → get_elem? l.metrics 0 ≡ some v → slice_index v.words.own 0 ≡ 5 → slice_index c.totals 0 ≡ 10 → HasMetrics 0 (l ∷ []) c → ⊥
