use Rattle.std.proofs.Common.{◌≡◌, ◌+◌, ◌++◌, drop, length, map}
use Rattle.std.specs.Vec.Iter.{into_iter_items, into_iter_len}
use Rattle.shared_seats.specs.Places.{new_place}
use Rattle.shared_seats.proofs.Gathering.{OthersBeside}
use Rattle.shared_seats.proofs.making.seat_lists.Given as goal

-- worker 1's places gave out the numbers so far, and the others have theirs
abbrev pub invariant-loop-further : goal.invariant-loop-further
invariant-loop-further l =
    (goal.iterator-loop-further).can_next l.further-iterator
    × (goal.iterator-loop-further).is_finite l.further-iterator
    × (length (into_iter_items l.further-iterator) ≡ into_iter_len l.further-iterator)
    × (l.yielded ++ into_iter_items l.further-iterator ≡ drop 1 l.fn.seats.items)
    × (length l.lists.items ≡ length l.yielded)
    × (l.first.items ≡ map (new_place 1 (length l.yielded + 1)) l.fn.tables)
    × OthersBeside l.fn.tables l.fn.seats.items l.lists.items
