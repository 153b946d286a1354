use Rattle.handoff.proofs.Relays.{notes_offered}
use Rattle.handoff.proofs.handoff.Handoff.note_offered.Goals as goal

pub another-requires-clause-rule : goal.another-requires-clause-rule
another-requires-clause-rule g c = notes_offered g.L.HasLine.line _ _ c.giver.invariant.1
