use Rattle.std.proofs.Common.{◌≡◌, ◌≤◌, ◌-◌, ◌++◌, take, drop, length}
use Rattle.callouts.specs.UnderWay.{without_due}
use Rattle.callouts.proofs.under_way.drop_due.Given as goal

-- what stands in front of the place is kept, and of what stands behind it those that are not due
abbrev pub invariant-loop-at : goal.invariant-loop-at
invariant-loop-at l = record {
  within : l.at ≤ length l.calls;
  kept : take l.at l.calls ++ without_due l.now (drop l.at l.calls) ≡ without_due l.now l.fn.calls;
}

abbrev pub decreases-loop-at : goal.decreases-loop-at
decreases-loop-at l = length l.calls - l.at
