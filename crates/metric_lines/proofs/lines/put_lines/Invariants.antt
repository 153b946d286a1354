use Rattle.std.proofs.Common.{◌≡◌, ◌++◌, take}
use Rattle.metric_lines.specs.Lines.{metric_lines}
use Rattle.metric_lines.proofs.lines.put_lines.Given as goal

-- the lines of the metrics so far
abbrev pub invariant-loop-place : goal.invariant-loop-place
invariant-loop-place l = l.out ≡ l.fn.out ++ metric_lines l.vm (take l.place l.told)
