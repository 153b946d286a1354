use Rattle.law_runs.proofs.Denying.{denying_example}
use Rattle.law_runs.proofs.laws.worked_runs.Goals as goal

pub returns : goal.returns
returns c = denying_example
