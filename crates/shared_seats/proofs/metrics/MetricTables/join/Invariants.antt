use Rattle.std.proofs.Common.{◌≡◌, length, ◌++◌}
use Rattle.std.specs.Vec.Iter.{into_iter_items, into_iter_len}
use Rattle.shared_seats.proofs.Rows.{JoinedBelow}
use Rattle.shared_seats.proofs.metrics.MetricTables.join.Given as goal

-- the places so far were joined
abbrev pub invariant-loop-place : goal.invariant-loop-place
invariant-loop-place l =
    (goal.iterator-loop-place).can_next l.place-iterator
    × (goal.iterator-loop-place).is_finite l.place-iterator
    × (length (into_iter_items l.place-iterator) ≡ into_iter_len l.place-iterator)
    × (l.yielded ++ into_iter_items l.place-iterator ≡ l.fn.ended.items)
    × (l.vm ≡ length l.yielded)
    × JoinedBelow l.vm l.fn.places.items l.fn.ended.items l.places.items
