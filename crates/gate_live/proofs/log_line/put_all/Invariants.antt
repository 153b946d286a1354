use Rattle.std.proofs.Common.{◌≡◌, ◌++◌, drop}
use Rattle.gate_live.specs.LogLine.{shown_all}
use Rattle.gate_live.proofs.log_line.put_all.Given as goal

abbrev pub invariant-loop-b : goal.invariant-loop-b
invariant-loop-b l = l.line.items ++ shown_all (drop l.b-index l.text) ≡ l.fn.line.items ++ shown_all l.text
