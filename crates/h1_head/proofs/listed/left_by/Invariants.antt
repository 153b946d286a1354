use Rattle.std.proofs.Common.{◌≡◌, ◌++◌, drop}
use Rattle.h1_model.specs.Fields.{fields_not_listed}
use Rattle.h1_head.proofs.listed.left_by.Given as goal

-- those that are left so far, and those of what comes behind
abbrev pub invariant-loop-at : goal.invariant-loop-at
invariant-loop-at l =
    l.left.pairs ++ fields_not_listed l.connection (drop l.at l.fields.pairs) ≡ fields_not_listed l.connection l.fields.pairs
