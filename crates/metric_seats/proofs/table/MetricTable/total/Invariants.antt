use Rattle.std.proofs.Common.{◌≡◌}
use Rattle.metric_seats.proofs.Summing.{Summing}
use Rattle.metric_seats.proofs.table.MetricTable.total.Given as goal

-- the words of the workers so far were read
abbrev pub invariant-loop-number : goal.invariant-loop-number
invariant-loop-number l =
    Summing l.initial.place-inside.words l.kind l.id l.number l.total l.place-inside.words × (l.place-inside.names ≡ l.initial.place-inside.names) × (l.place-inside.known.kinds ≡ l.initial.place-inside.known.kinds)
