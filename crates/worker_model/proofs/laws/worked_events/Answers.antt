use Rattle.worker_model.proofs.Examples.{event_examples}
use Rattle.worker_model.proofs.laws.worked_events.Goals as goal

pub returns : goal.returns
returns c = event_examples
