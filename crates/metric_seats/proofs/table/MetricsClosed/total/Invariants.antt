use Rattle.std.proofs.Common.{◌≡◌, ◌-◌, ◌%◌, ◌^◌}
use Rattle.metric_seats.proofs.Totals.{summed_to}
use Rattle.metric_seats.proofs.table.MetricsClosed.total.Given as goal

-- the words of the workers so far were summed
abbrev pub invariant-loop-number : goal.invariant-loop-number
invariant-loop-number l = l.total ≡ summed_to l.self.totals l.kind l.id (l.number - 1) % 2 ^ 64
