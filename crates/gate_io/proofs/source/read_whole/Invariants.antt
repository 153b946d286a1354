use Rattle.std.proofs.Common.{◌≡◌, ◌+◌, ◌≤◌, length, ◌-◌}
use Rattle.gate_io.specs.Told.{Loses}
use Rattle.gate_io.proofs.source.read_whole.Given as goal

abbrev pub invariant-loop-room : goal.invariant-loop-room
invariant-loop-room g l = record {
  taken : Loses (g.S.Source.left l.fn.source) l.bytes (g.S.Source.left l.source);
  bound : length l.bytes ≤ l.most + 1;
  room : length l.room ≡ 16384;
  faults : g.S.Source.faults l.fn.source ≤ g.S.Source.faults l.source;
}

abbrev pub decreases-loop-room : goal.decreases-loop-room
decreases-loop-room g l = (l.most + 1) - length l.bytes
