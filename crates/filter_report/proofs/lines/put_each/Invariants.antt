use Rattle.std.proofs.Common.{◌≡◌, ◌++◌, map, take}
use Rattle.filter_report.specs.Report.{letter}
use Rattle.filter_report.proofs.lines.put_each.Given as goal

-- the letters of the types so far
abbrev pub invariant-loop-t : goal.invariant-loop-t
invariant-loop-t l = l.out ≡ l.initial.out ++ map letter (take l.t-index l.types)
