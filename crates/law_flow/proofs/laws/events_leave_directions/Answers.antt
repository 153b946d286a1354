use Rattle.law_flow.proofs.Events.{events_leave}
use Rattle.law_flow.proofs.laws.events_leave_directions.Goals as goal

pub returns : goal.returns
returns c = events_leave
