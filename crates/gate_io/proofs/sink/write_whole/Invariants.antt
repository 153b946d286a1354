use Rattle.std.proofs.Common.{◌≤◌, ◌-◌, length, take}
use Rattle.gate_io.specs.Told.{Gains}
use Rattle.gate_io.proofs.sink.write_whole.Given as goal

abbrev pub invariant-loop-at : goal.invariant-loop-at
invariant-loop-at g l = record {
  within : l.at ≤ length l.bytes;
  gained : Gains (g.O.Sink.taken l.fn.sink) (take l.at l.bytes) (g.O.Sink.taken l.sink);
  faults : g.O.Sink.faults l.fn.sink ≤ g.O.Sink.faults l.sink;
}

abbrev pub decreases-loop-at : goal.decreases-loop-at
decreases-loop-at g l = length l.bytes - l.at
