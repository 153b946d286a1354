use Rattle.std.proofs.Common.{◌≡◌, ◌++◌, drop, length}
use Rattle.std.specs.Vec.Iter.{into_iter_items, into_iter_len}
use Rattle.shared_seats.proofs.Gathering.{Gathered, SeatsGathered}
use Rattle.shared_seats.proofs.tables.Tables.shut.Given as goal

-- the lists so far were joined
abbrev pub invariant-loop-list : goal.invariant-loop-list
invariant-loop-list l =
    (goal.iterator-loop-list).can_next l.list-iterator
    × (goal.iterator-loop-list).is_finite l.list-iterator
    × (length (into_iter_items l.list-iterator) ≡ into_iter_len l.list-iterator)
    × (l.yielded ++ into_iter_items l.list-iterator ≡ drop 1 l.fn.lists.items)
    × SeatsGathered l.fn.self.stores l.fn.lists.items (length l.yielded) l.seats.items
    × Gathered l.fn.self.metrics l.fn.lists.items (length l.yielded) l.places.items
