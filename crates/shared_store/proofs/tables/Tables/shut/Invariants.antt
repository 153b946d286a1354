use Rattle.std.proofs.Common.{◌≡◌, ◌++◌, drop, length}
use Rattle.std.specs.Vec.Iter.{into_iter_items, into_iter_len}
use Rattle.shared_store.proofs.Gathering.{Gathered}
use Rattle.shared_store.proofs.tables.Tables.shut.Given as goal

-- the lists so far were joined
abbrev pub invariant-loop-seats : goal.invariant-loop-seats
invariant-loop-seats l =
    (goal.iterator-loop-seats).can_next l.seats-iterator
    × (goal.iterator-loop-seats).is_finite l.seats-iterator
    × (length (into_iter_items l.seats-iterator) ≡ into_iter_len l.seats-iterator)
    × (l.yielded ++ into_iter_items l.seats-iterator ≡ drop 1 l.fn.lists.items)
    × Gathered l.fn.self l.fn.lists.items (length l.yielded) l.first.items
