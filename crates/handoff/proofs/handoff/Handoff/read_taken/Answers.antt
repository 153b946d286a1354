use Rattle.handoff.proofs.Relays.{reads}
use Rattle.handoff.proofs.handoff.Handoff.read_taken.Goals as goal

pub absorb-requires-clause-rule : goal.absorb-requires-clause-rule
absorb-requires-clause-rule g c = reads g.L.HasLine.line _ _ _ _
