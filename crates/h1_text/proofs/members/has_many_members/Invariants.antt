use Rattle.std.proofs.Common.{◌≡◌, ◌+◌, ◌<◌, length}
use Rattle.h1_model.specs.Fields.{members}
use Rattle.h1_text.proofs.members.has_many_members.Given as goal

-- the members so far, and those that are left
abbrev pub invariant-loop-after : goal.invariant-loop-after
invariant-loop-after l = (l.count < 4) × (l.count + length (members l.rest) ≡ length (members l.value))

abbrev pub decreases-loop-after : goal.decreases-loop-after
decreases-loop-after l = length l.rest
