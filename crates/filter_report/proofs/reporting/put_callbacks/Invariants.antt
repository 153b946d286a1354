use Rattle.std.proofs.Common.{◌≡◌, ◌++◌, take}
use Rattle.std.specs.List.{flat_map}
use Rattle.filter_report.specs.Report.{callback_line}
use Rattle.filter_report.proofs.reporting.put_callbacks.Given as goal

-- the lines of the roles so far
abbrev pub invariant-loop-role : goal.invariant-loop-role
invariant-loop-role l = l.out ≡ l.initial.out ++ flat_map (callback_line l.m) (take l.role-index l.roles)
