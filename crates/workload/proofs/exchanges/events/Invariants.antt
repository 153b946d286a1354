use Rattle.std.proofs.Common.{◌≡◌}
use Rattle.workload.specs.Events.{given_of}
use Rattle.workload.proofs.exchanges.events.Given as goal

abbrev pub invariant-loop-i : goal.invariant-loop-i
invariant-loop-i l = l.events.items ≡ given_of l.fn.n l.fn.who l.i
