use Rattle.std.proofs.Common.{◌≡◌, ◌≤◌, length, drop, ◌+◌, ◌-◌}
use Rattle.h1_model.specs.Lines.{whole_lines, empty_len}
use Rattle.h1_head.proofs.lines.skip_empty_lines.Given as goal

-- the empty lines so far, and those in front of what is left
abbrev pub invariant-loop-len : goal.invariant-loop-len
invariant-loop-len l = record {
  within : l.at ≤ length l.text;
  value : l.at + empty_len (whole_lines (drop l.at l.text)) ≡ empty_len (whole_lines l.text);
}

abbrev pub decreases-loop-len : goal.decreases-loop-len
decreases-loop-len l = length l.text - l.at
