use Rattle.std.proofs.Common.{◌≡◌, ◌≤◌, length, drop, ◌++◌, vec_capacity}
use Rattle.std.specs.Vec.Iter.{into_iter_items, into_iter_len}
use Rattle.shared_seats.proofs.Rows.{ClosedSoFar}
use Rattle.shared_seats.proofs.metrics.MetricTables.close.Given as goal

-- the tables so far were closed with their places, and there is room for the metrics of the others
abbrev pub invariant-loop-table : goal.invariant-loop-table
invariant-loop-table l =
    (goal.iterator-loop-table).can_next l.table-iterator
    × (goal.iterator-loop-table).is_finite l.table-iterator
    × (length (into_iter_items l.table-iterator) ≡ into_iter_len l.table-iterator)
    × (l.yielded ++ into_iter_items l.table-iterator ≡ l.fn.self)
    × (into_iter_items l.rest ≡ drop (length l.yielded) l.fn.places.items)
    × (length (into_iter_items l.rest) ≡ into_iter_len l.rest)
    × (length l.metrics.items ≡ length l.yielded)
    × ClosedSoFar l.fn.places.items l.metrics.items
    × (length l.fn.self ≤ vec_capacity l.metrics)
