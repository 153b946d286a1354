use Rattle.std.proofs.Common.{◌≡◌}
use Rattle.streams_model.specs.Lines.{bypass_vm_stages}
use Rattle.worker_streams.proofs.dying.open_some.Given as goal

abbrev pub invariant-loop-at : goal.invariant-loop-at
invariant-loop-at l = bypass_vm_stages l.response l.vm l.at (l.s, l.hub) ≡ bypass_vm_stages l.fn.response l.fn.vm l.fn.count (l.fn.s, l.fn.hub)

abbrev pub decreases-loop-at : goal.decreases-loop-at
decreases-loop-at l = l.at
