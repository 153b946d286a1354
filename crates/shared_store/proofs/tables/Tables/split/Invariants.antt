use Rattle.std.proofs.Common.{◌≡◌, ◌≤◌, length, take, map, vec_capacity}
use Rattle.turn_table.specs.Seats.{next_seat}
use Rattle.shared_store.specs.Tables.{after_giving}
use Rattle.shared_store.proofs.Rows.{below}
use Rattle.shared_store.proofs.tables.Tables.split.Given as goal

-- the seats so far gave out a number, and there is room for the others
abbrev pub invariant-loop-vm : goal.invariant-loop-vm
invariant-loop-vm l = (l.seats.items ≡ below after_giving l.vm l.fn.seats.items) × (l.next.items ≡ map next_seat (take l.vm l.fn.seats.items)) × (length l.fn.seats.items ≤ vec_capacity l.next)
