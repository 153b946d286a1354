use Rattle.law_rest.proofs.Examples.{moving_example, reading_example, event_example, paused_example}
use Rattle.law_rest.proofs.laws.worked_rooms.Goals as goal

pub returns : goal.returns
returns c = record { moving = moving_example; reading = reading_example; event = event_example; paused = paused_example }
