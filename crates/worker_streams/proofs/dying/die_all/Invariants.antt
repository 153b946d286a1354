use Rattle.std.proofs.Common.{◌≡◌, length}
use Rattle.streams_model.specs.Lines.{lose_vm}
use Rattle.streams_model.specs.Rooms.{all_lines}
use Rattle.worker_streams.proofs.Losses.{in_front_of}
use Rattle.worker_streams.proofs.dying.die_all.Given as goal

abbrev pub invariant-loop-l : goal.invariant-loop-l
invariant-loop-l l = in_front_of l.done (all_lines (lose_vm l.vm) l.rest l.hub) ≡ all_lines (lose_vm l.fn.vm) l.fn.lines l.fn.hub

abbrev pub decreases-loop-l : goal.decreases-loop-l
decreases-loop-l l = length l.rest
