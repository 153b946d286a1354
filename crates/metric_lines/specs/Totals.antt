-- What the metrics of a VM name came to, in the order in which it is told.
use Rattle.std.specs.Prelude.{ℕ, ◌+◌, Bool, true, false, List, [], ◌∷◌, insert}
use Rattle.std.specs.List.{position_or_len}
use Rattle.std.specs.Cmp.Lexicographic.{slice_cmp}
use Rattle.std.specs.Ordering.{is_lt, nat_cmp}
use Rattle.store_model.specs.declared.metric.MetricKind.TheVariants.{Counter, Gauge}
use Rattle.store_model.specs.declared.metric.MetricKind.{MetricKind}
use Rattle.store_model.specs.declared.metric.MetricName.{MetricName}
use Rattle.metric_seats.specs.Totals.{total_in}
use Rattle.metric_seats.specs.declared.table.MetricsClosed.{MetricsClosed}
use Rattle.metric_lines.specs.declared.totals.MetricTotal.{MetricTotal}

-- metrics with their totals, by their ids from one on
abbrev pub totals_from : List ℕ → ℕ → List MetricName → List MetricTotal
totals_from words id [] = []
totals_from words id (n ∷ ns) = record { kind = n.kind; name = n.name; total = total_in words n.kind id } ∷ totals_from words (id + 1) ns

-- all metrics of a VM name with their totals, by their ids
abbrev pub totals_of_all : MetricsClosed → List MetricTotal
totals_of_all c = totals_from c.totals 1 c.names.names

-- A counter comes before a gauge, and among metrics of one kind those whose names have the lesser bytes.
abbrev pub kinds_before : MetricKind → MetricKind → Bool → Bool
kinds_before Counter Gauge lesser = true
kinds_before Gauge Counter lesser = false
kinds_before _ _ lesser = lesser

abbrev pub comes_before : MetricTotal → MetricTotal → Bool
comes_before m n = kinds_before m.kind n.kind (is_lt (slice_cmp nat_cmp m.name n.name))

-- where a metric is put among others: before the first that comes after it, or at the end
abbrev pub place_for : MetricTotal → List MetricTotal → ℕ
place_for m ms = position_or_len (comes_before m) ms

abbrev pub put_in : MetricTotal → List MetricTotal → List MetricTotal
put_in m ms = insert ms (place_for m ms) m

abbrev pub put_all : List MetricTotal → List MetricTotal → List MetricTotal
put_all [] done = done
put_all (m ∷ ms) done = put_all ms (put_in m done)

abbrev pub in_order : List MetricTotal → List MetricTotal
in_order ms = put_all ms []
