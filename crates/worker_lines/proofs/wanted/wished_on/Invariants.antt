use Rattle.std.proofs.Common.{◌≡◌, ◌≤◌, length, take, drop}
use Rattle.worker_lines.specs.Wishes.{lines_with, with_wishes}
use Rattle.worker_lines.proofs.wanted.wished_on.Given as goal

-- what is wanted of the lines that were looked at stands in front, and the others are due when they are
abbrev pub invariant-loop-wish : goal.invariant-loop-wish
invariant-loop-wish l =
    (take l.downs l.wants.down ≡ lines_with (λ w. w.down) (take l.wish-index l.each))
    × (l.downs ≤ length l.wants.down) × (l.downs ≤ l.wish-index)
    × (take l.ups l.wants.up ≡ lines_with (λ w. w.up) (take l.wish-index l.each))
    × (l.ups ≤ length l.wants.up) × (l.ups ≤ l.wish-index)
    × (with_wishes l.first (drop l.wish-index l.each) ≡ with_wishes l.fn.due l.each)
