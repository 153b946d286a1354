use Rattle.std.proofs.Common.{◌≡◌}
use Rattle.exchange.specs.Passing.{bypass_vm_stages}
use Rattle.exchange.proofs.passing.open_some.Given as goal

abbrev pub invariant-loop-k : goal.invariant-loop-k
invariant-loop-k l = bypass_vm_stages l.response l.vm l.n l.k (l.x, l.hub) ≡ bypass_vm_stages l.fn.response l.fn.vm l.fn.n l.fn.count (l.fn.x, l.fn.hub)

abbrev pub decreases-loop-k : goal.decreases-loop-k
decreases-loop-k l = l.k
