use Rattle.std.proofs.Common.{◌≡◌, ◌++◌, drop}
use Rattle.h1_model.specs.Wire.{field_lines}
use Rattle.h1_write.proofs.head.push_tail.Given as goal

-- what is written so far, and the lines of what is left
abbrev pub invariant-loop-at : goal.invariant-loop-at
invariant-loop-at l = l.out ++ field_lines (drop l.at l.fields.pairs) ≡ l.fn.out ++ field_lines l.fields.pairs
