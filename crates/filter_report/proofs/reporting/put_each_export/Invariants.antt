use Rattle.std.proofs.Common.{◌≡◌, ◌++◌, take}
use Rattle.std.specs.List.{flat_map}
use Rattle.filter_report.specs.Report.{export_line}
use Rattle.filter_report.proofs.reporting.put_each_export.Given as goal

-- the lines of the exports so far
abbrev pub invariant-loop-e : goal.invariant-loop-e
invariant-loop-e l = l.out ≡ l.initial.out ++ flat_map (export_line l.m) (take l.e-index l.m.exports)
