use Rattle.law_runs.proofs.Runs.{runs_what_is_asked}
use Rattle.law_runs.proofs.laws.runs_what_is_asked.Goals as goal

pub returns : goal.returns
returns c = runs_what_is_asked
