use Rattle.std.proofs.Common.{◌≡◌, ◌++◌, codes, drop, filter}
use Rattle.h1_model.specs.Fields.{is_named}
use Rattle.callouts.proofs.requests.push_connection.Given as goal

-- the fields so far, and those of what is left
abbrev pub invariant-loop-at : goal.invariant-loop-at
invariant-loop-at l = l.texts ++ filter (is_named (codes "connection")) (drop l.at l.fields.pairs) ≡ l.fn.texts ++ filter (is_named (codes "connection")) l.fields.pairs
