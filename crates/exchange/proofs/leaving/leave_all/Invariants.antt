use Rattle.std.proofs.Common.{◌≡◌, length}
use Rattle.exchange.specs.Leaving.{send_items}
use Rattle.exchange.proofs.leaving.leave_all.Given as goal

abbrev pub invariant-loop-item : goal.invariant-loop-item
invariant-loop-item l = send_items l.response l.n l.rest (l.x, l.hub) ≡ send_items l.fn.response l.fn.n l.fn.items (l.fn.x, l.fn.hub)

abbrev pub decreases-loop-item : goal.decreases-loop-item
decreases-loop-item l = length l.rest
