use Rattle.std.proofs.Common.{◌≡◌, drop}
use Rattle.worker_model.specs.Wants.{with_lines}
use Rattle.worker_lines.proofs.wanted.with_each.Given as goal

-- the others are due when they are
abbrev pub invariant-loop-line : goal.invariant-loop-line
invariant-loop-line l = with_lines l.first (drop l.line-index l.lines) ≡ with_lines l.fn.due l.lines
