use Rattle.law_read_back.proofs.Running.{filter_run}
use Rattle.law_read_back.proofs.laws.worked_turns.Goals as goal

pub returns : goal.returns
returns c = filter_run
