use Rattle.std.proofs.Common.{◌≡◌, take}
use Rattle.workload.specs.Tallies.{tally_of}
use Rattle.workload.proofs.tally.count.Given as goal

abbrev pub invariant-loop-sent : goal.invariant-loop-sent
invariant-loop-sent l = l.tally ≡ tally_of (take l.sent-index l.received)
