use Rattle.std.proofs.Common.{◌≡◌, ◌++◌, take}
use Rattle.worker_model.specs.Wants.{call_lines}
use Rattle.worker.proofs.call_wants.push_call_lines.Given as goal

-- the lines of the callouts that were looked at
abbrev pub invariant-loop-c : goal.invariant-loop-c
invariant-loop-c l = l.lines ≡ l.fn.lines ++ call_lines (take l.c-index l.calls)
