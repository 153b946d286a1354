use Rattle.std.proofs.Common.{◌≡◌, length}
use Rattle.exchange.specs.Passing.{put_all_to_chain}
use Rattle.exchange.proofs.passing.put_all.Given as goal

abbrev pub invariant-loop-item : goal.invariant-loop-item
invariant-loop-item l = put_all_to_chain l.response l.n l.rest (l.x, l.hub) ≡ put_all_to_chain l.fn.response l.fn.n l.fn.items (l.fn.x, l.fn.hub)

abbrev pub decreases-loop-item : goal.decreases-loop-item
decreases-loop-item l = length l.rest
