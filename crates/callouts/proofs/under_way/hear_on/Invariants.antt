use Rattle.callouts.specs.UnderWay.{Led}
use Rattle.callouts.proofs.under_way.hear_on.Given as goal

-- what was heard so far led here
abbrev pub invariant-loop : goal.invariant-loop
invariant-loop l = Led l.fn.c l.c
