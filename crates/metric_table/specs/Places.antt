-- Where the words stand: a row of 128 for each worker, in it 64 counters and then 64 gauges, by their ids.
use Rattle.std.specs.Prelude.{ℕ, ◌+◌, ◌-◌, ◌*◌, ◌%◌, ◌<◌, ◌==◌, List, [], ◌∷◌, map}
use Rattle.std.specs.List.{filter}
use Rattle.store_model.specs.declared.metric.MetricKind.{MetricKind}
use Rattle.store_model.specs.declared.metric.MetricKind.TheVariants.{Counter, Gauge}
use Rattle.metric_table.specs.declared.view.Look.{Look}

-- the place in a worker's row
abbrev pub column_of : MetricKind → ℕ → ℕ
column_of Counter id = id - 1
column_of Gauge id = 64 + (id - 1)

-- the first place of a worker's row
abbrev pub row_of : ℕ → ℕ
row_of who = (who - 1) * 128

-- the place of the word of a worker, a kind and an id
abbrev pub place_of : ℕ → MetricKind → ℕ → ℕ
place_of who kind id = row_of who + column_of kind id

-- the word of a counter, which only rises
abbrev pub IsOfCounter : ℕ → Type 0
IsOfCounter place = place % 128 < 64

-- the values that were read at a place, in order
abbrev pub looks_at : ℕ → List Look → List ℕ
looks_at place looks = map (λ l. l.value) (filter (λ l. l.place == place) looks)

-- the last member of a list, or 0 where it has none
abbrev pub last_from : ℕ → List ℕ → ℕ
last_from n [] = n
last_from n (x ∷ xs) = last_from x xs

-- the value that was seen last at a place, or 0
abbrev pub last_seen : ℕ → List Look → ℕ
last_seen place looks = last_from 0 (looks_at place looks)
