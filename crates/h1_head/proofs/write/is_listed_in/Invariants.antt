use Rattle.std.proofs.Common.{◌≡◌, drop}
use Rattle.http_header.specs.Token.{lowercase}
use Rattle.h1_model.specs.Fields.{is_listed}
use Rattle.h1_head.proofs.write.is_listed_in.Given as goal

-- what is left decides
abbrev pub invariant-loop-at : goal.invariant-loop-at
invariant-loop-at l =
    is_listed (lowercase l.name) (drop l.at l.fields) ≡ is_listed (lowercase l.name) l.fields
