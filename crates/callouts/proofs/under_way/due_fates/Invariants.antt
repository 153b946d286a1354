use Rattle.std.proofs.Common.{◌≡◌, ◌++◌, drop}
use Rattle.callouts.specs.UnderWay.{due_fates}
use Rattle.callouts.proofs.under_way.due_fates.Given as goal

-- the fates so far, and those of what is left
abbrev pub invariant-loop-c : goal.invariant-loop-c
invariant-loop-c l = l.fates ++ due_fates l.now (drop l.c-index l.calls) ≡ due_fates l.now l.calls
