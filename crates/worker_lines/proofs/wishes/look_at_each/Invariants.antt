use Rattle.std.proofs.Common.{◌≡◌, take, map}
use Rattle.worker_lines.specs.Wishes.{wish_of}
use Rattle.worker_lines.proofs.wishes.look_at_each.Given as goal

-- what the lines want that were looked at
abbrev pub invariant-loop-line : goal.invariant-loop-line
invariant-loop-line l = l.each.items ≡ map wish_of (take l.line-index l.lines)
