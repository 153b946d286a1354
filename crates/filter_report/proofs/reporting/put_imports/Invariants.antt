use Rattle.std.proofs.Common.{◌≡◌, ◌++◌, take}
use Rattle.std.specs.List.{flat_map}
use Rattle.filter_report.specs.Report.{import_line}
use Rattle.filter_report.proofs.reporting.put_imports.Given as goal

-- the lines of the imports so far
abbrev pub invariant-loop-i : goal.invariant-loop-i
invariant-loop-i l = l.out ≡ l.initial.out ++ flat_map (import_line l.m) (take l.i-index l.m.imports)
