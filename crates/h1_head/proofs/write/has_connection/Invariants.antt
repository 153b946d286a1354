use Rattle.std.proofs.Common.{◌≡◌, drop}
use Rattle.std.specs.Prelude.{codes}
use Rattle.std.specs.List.{list_any}
use Rattle.h1_model.specs.Fields.{is_named}
use Rattle.h1_head.proofs.write.has_connection.Given as goal

-- what is left decides
abbrev pub invariant-loop-at : goal.invariant-loop-at
invariant-loop-at l =
    list_any (is_named (codes "connection")) (drop l.at l.fields) ≡ list_any (is_named (codes "connection")) l.fields
