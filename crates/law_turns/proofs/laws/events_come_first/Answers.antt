use Rattle.law_turns.proofs.Firsts.{event_first}
use Rattle.law_turns.proofs.laws.events_come_first.Goals as goal

pub returns : goal.returns
returns g c = event_first
