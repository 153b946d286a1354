use Rattle.law_exchange.proofs.Framings.{requests_keep, responses_stay}
use Rattle.law_exchange.proofs.laws.lines_stay_in_step.Goals as goal

pub returns : goal.returns
returns c = record { requests = requests_keep; responses = responses_stay }
