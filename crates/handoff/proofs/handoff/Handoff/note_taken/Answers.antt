use Rattle.handoff.proofs.Relays.{notes_taken}
use Rattle.handoff.proofs.handoff.Handoff.note_taken.Goals as goal

pub another-requires-clause-rule : goal.another-requires-clause-rule
another-requires-clause-rule g c = notes_taken g.L.HasLine.line _ _ c.taker.invariant.1
