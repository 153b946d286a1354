use Rattle.std.proofs.Common.{◌≡◌, ◌++◌, codes, drop, filter}
use Rattle.h1_model.specs.Fields.{is_named}
use Rattle.exchange.proofs.writing.connection_fields.Given as goal

-- the fields so far, and those of what is left
abbrev pub invariant-loop-at : goal.invariant-loop-at
invariant-loop-at l = l.texts ++ filter (is_named (codes "connection")) (drop l.at l.head.pairs) ≡ filter (is_named (codes "connection")) l.head.pairs
