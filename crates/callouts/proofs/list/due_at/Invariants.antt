use Rattle.std.proofs.Common.{◌≡◌, ◌++◌, drop}
use Rattle.callouts.specs.Callouts.{due_at}
use Rattle.callouts.proofs.list.due_at.Given as goal

-- the ids so far, and those of what is left
abbrev pub invariant-loop-c : goal.invariant-loop-c
invariant-loop-c l = l.ids ++ due_at l.now (drop l.c-index l.calls) ≡ due_at l.now l.calls
