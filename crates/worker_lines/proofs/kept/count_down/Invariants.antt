use Rattle.std.proofs.Common.{◌≡◌, ◌≤◌, length, take}
use Rattle.worker_lines.specs.Wishes.{lines_with}
use Rattle.worker_lines.proofs.kept.count_down.Given as goal

-- how many of those that were looked at
abbrev pub invariant-loop-wish : goal.invariant-loop-wish
invariant-loop-wish l = (l.count ≡ length (lines_with (λ w. w.down) (take l.wish-index l.each))) × (l.count ≤ l.wish-index)
