use Rattle.std.proofs.Common.{◌≤◌, ◌-◌, length, take}
use Rattle.gate_io.specs.Told.{Gains}
use Rattle.gate_live.proofs.stderr.put_pieces.Given as goal

-- the first bytes of the line were written
abbrev pub invariant-loop-at : goal.invariant-loop-at
invariant-loop-at g l = record {
  within : l.at ≤ length l.line;
  gained : Gains (g.R.LogStream.logged l.fn.rt) (take l.at l.line) (g.R.LogStream.logged l.rt);
}

abbrev pub decreases-loop-at : goal.decreases-loop-at
decreases-loop-at g l = length l.line - l.at
