use Rattle.std.proofs.Common.{◌≡◌, ◌≤◌, length, take}
use Rattle.worker_lines.proofs.wanted.cut.Given as goal

-- those that are left stood in front
abbrev pub invariant-loop-numbers : goal.invariant-loop-numbers
invariant-loop-numbers l = (l.numbers ≡ take (length l.numbers) l.fn.numbers) × (l.count ≤ length l.numbers)

abbrev pub decreases-loop-numbers : goal.decreases-loop-numbers
decreases-loop-numbers l = length l.numbers
