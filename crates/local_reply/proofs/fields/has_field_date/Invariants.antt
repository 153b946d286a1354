use Rattle.std.proofs.Common.{◌≡◌, drop}
use Rattle.h1_model.specs.LocalReply.{has_date}
use Rattle.local_reply.proofs.fields.has_field_date.Given as goal

-- what is left decides
abbrev pub invariant-loop-at : goal.invariant-loop-at
invariant-loop-at l = has_date (drop l.at l.fields.pairs) ≡ has_date l.fields.pairs
