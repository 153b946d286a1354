use Rattle.std.proofs.Common.{◌≡◌, ◌≤◌, length, drop, ◌-◌}
use Rattle.h1_model.specs.Lines.{whole_lines, window_cut}
use Rattle.h1_model.proofs.LineLemmas.{cut_from}
use Rattle.h1_head.proofs.lines.window_cut.Given as goal

-- what is left gives the cut of the whole
abbrev pub invariant-loop-len : goal.invariant-loop-len
invariant-loop-len l = record {
  within : l.at ≤ length l.window;
  few : l.lines ≤ l.at;
  cut : cut_from (length l.window) l.at l.lines (whole_lines (drop l.at l.window)) ≡ window_cut l.window;
}

abbrev pub decreases-loop-len : goal.decreases-loop-len
decreases-loop-len l = length l.window - l.at
