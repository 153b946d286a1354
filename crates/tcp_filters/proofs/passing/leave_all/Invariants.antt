use Rattle.std.proofs.Common.{◌≡◌, length}
use Rattle.tcp_filters.specs.Lines.{send_items}
use Rattle.tcp_filters.proofs.passing.leave_all.Given as goal

abbrev pub invariant-loop-item : goal.invariant-loop-item
invariant-loop-item l = send_items l.response l.rest (l.line, l.sent) ≡ send_items l.fn.response l.fn.items (l.fn.line, l.fn.sent)

abbrev pub decreases-loop-item : goal.decreases-loop-item
decreases-loop-item l = length l.rest
