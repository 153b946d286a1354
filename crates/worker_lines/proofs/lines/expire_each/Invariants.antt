use Rattle.std.proofs.Common.{◌≡◌, length}
use Rattle.exchange.specs.Passing.{expire_exchange}
use Rattle.worker_model.specs.Rooms.{all_lines}
use Rattle.worker_lines.proofs.Dying.{in_front_of}
use Rattle.worker_lines.proofs.lines.expire_each.Given as goal

abbrev pub invariant-loop-line : goal.invariant-loop-line
invariant-loop-line l = in_front_of l.done.items (all_lines (expire_exchange) l.rest l.hub) ≡ all_lines (expire_exchange) l.fn.lines.items l.fn.hub

abbrev pub decreases-loop-line : goal.decreases-loop-line
decreases-loop-line l = length l.rest
