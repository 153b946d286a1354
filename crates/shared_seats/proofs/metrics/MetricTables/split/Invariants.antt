use Rattle.std.proofs.Common.{◌≡◌, ◌≤◌, length, take, map, vec_capacity}
use Rattle.metric_seats.specs.Places.{next_place}
use Rattle.shared_seats.specs.Places.{after_giving}
use Rattle.shared_seats.proofs.Lists.{below}
use Rattle.shared_seats.proofs.metrics.MetricTables.split.Given as goal

-- the places so far gave out a number, and there is room for the others
abbrev pub invariant-loop-vm : goal.invariant-loop-vm
invariant-loop-vm l = (l.places.items ≡ below after_giving l.vm l.fn.places.items) × (l.next.items ≡ map next_place (take l.vm l.fn.places.items)) × (length l.fn.places.items ≤ vec_capacity l.next)
