use Rattle.std.proofs.Common.{◌≡◌, length}
use Rattle.exchange.specs.Passing.{lose_vm}
use Rattle.worker_model.specs.Rooms.{all_lines}
use Rattle.worker_lines.proofs.Dying.{in_front_of}
use Rattle.worker_lines.proofs.lines.die_all.Given as goal

abbrev pub invariant-loop-line : goal.invariant-loop-line
invariant-loop-line l = in_front_of l.done.items (all_lines (lose_vm l.vm) l.rest l.hub) ≡ all_lines (lose_vm l.fn.vm) l.fn.lines.items l.fn.hub

abbrev pub decreases-loop-line : goal.decreases-loop-line
decreases-loop-line l = length l.rest
