use Rattle.std.proofs.Common.{◌≡◌, ◌++◌, drop, length, take}
use Rattle.h1_model.specs.Wire.{field_lines, sent_among, sent_fields}
use Rattle.h1_head.proofs.write.push_unmarked.Given as goal

-- what is written so far, and the lines of what goes out of what is left; what stood there stands in front
abbrev pub invariant-loop-at : goal.invariant-loop-at
invariant-loop-at l = record {
  lines : l.out ++ field_lines (sent_among l.fields (drop l.at l.fields)) ≡ l.fn.out ++ field_lines (sent_fields l.fields);
  behind : take (length l.fn.out) l.out ≡ l.fn.out;
}
