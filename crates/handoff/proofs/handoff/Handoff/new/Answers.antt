use Rattle.std.proofs.Common.{rules}
use Rattle.handoff.proofs.Relays.{begins, forks}
use Rattle.handoff.proofs.handoff.Handoff.new.Goals as goal

pub ruled-requires-clause-rule : goal.ruled-requires-clause-rule
ruled-requires-clause-rule g c = begins g.L.HasLine.line

pub another-taking-requires-clause-rule : goal.another-taking-requires-clause-rule
another-taking-requires-clause-rule g c = forks g.L.HasLine.line _ _ (search rules) (search rules)
