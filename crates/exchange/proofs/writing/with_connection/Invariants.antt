use Rattle.std.proofs.Common.{◌≡◌, ◌++◌, drop}
use Rattle.exchange.proofs.writing.with_connection.Given as goal

abbrev pub invariant-loop-at : goal.invariant-loop-at
invariant-loop-at l = l.texts ++ drop l.at l.connection ≡ l.trailers.pairs ++ l.connection
