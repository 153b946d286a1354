use Rattle.law_turns.proofs.Leaving.{gone_example, stop_example}
use Rattle.law_turns.proofs.laws.worked_leaving.Goals as goal

pub returns : goal.returns
returns c = record { gone = gone_example; stop = stop_example }
