use Rattle.std.proofs.Common.{◌≡◌, length, ◌++◌}
use Rattle.std.specs.Vec.Iter.{into_iter_items, into_iter_len}
use Rattle.shared_store.proofs.Rows.{JoinedBelow}
use Rattle.shared_store.proofs.tables.Tables.join.Given as goal

-- the seats so far were joined
abbrev pub invariant-loop-seat : goal.invariant-loop-seat
invariant-loop-seat l =
    (goal.iterator-loop-seat).can_next l.seat-iterator
    × (goal.iterator-loop-seat).is_finite l.seat-iterator
    × (length (into_iter_items l.seat-iterator) ≡ into_iter_len l.seat-iterator)
    × (l.yielded ++ into_iter_items l.seat-iterator ≡ l.fn.ended.items)
    × (l.vm ≡ length l.yielded)
    × JoinedBelow l.vm l.fn.seats.items l.fn.ended.items l.seats.items
