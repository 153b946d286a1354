use Rattle.std.proofs.Common.{◌≡◌, drop}
use Rattle.std.specs.List.{list_any}
use Rattle.http_header.specs.Token.{lowercase}
use Rattle.h1_model.specs.Fields.{lists}
use Rattle.h1_head.proofs.listed.is_listed_by.Given as goal

-- what is left decides
abbrev pub invariant-loop-value : goal.invariant-loop-value
invariant-loop-value l =
    list_any (lists (lowercase l.name)) (drop l.value-index l.connection) ≡ list_any (lists (lowercase l.name)) l.connection
