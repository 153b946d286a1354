use Rattle.turn_table.proofs.Calls.{to_give, called}
use Rattle.turn_table.proofs.turn.turn.Goals as goal

pub give-requires-clause-holds : goal.give-requires-clause-holds
give-requires-clause-holds g c = to_give g.S.Turned.acts _ _ _ _ _ _ _ c.take.ensures.won c.ask.ensures.same.2 c.in-Ok.ensures.after c.record.ensures.recorded

pub returns-in-Ok-clause-done : goal.returns-in-Ok-clause-done
returns-in-Ok-clause-done g c = called g.S.Turned.acts _ _ _ _ _ _ _ _ _ _ c.requires.seat.0 c.take.ensures.won c.ask.ensures.same.2 c.record.ensures.recorded c.give.ensures.gave c.in-Ok.ensures.reply
