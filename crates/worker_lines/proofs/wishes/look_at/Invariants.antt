use Rattle.std.proofs.Common.{◌≡◌, length}
use Rattle.worker_lines.specs.Wishes.{Listed}
use Rattle.worker_lines.proofs.Wished.{FitsFrom}
use Rattle.worker_lines.proofs.wishes.look_at.Given as goal

-- what is known, but for places that are still to be looked at
abbrev pub invariant-loop-at : goal.invariant-loop-at
invariant-loop-at l = (length l.kept.each.items ≡ length l.lines) × FitsFrom l.fn.touched l.at l.kept.each.items l.lines × Listed l.kept
