use Rattle.law_host_calls.proofs.HttpCalls.{calls_refused}
use Rattle.law_host_calls.proofs.laws.worked_refusals.Goals as goal

pub returns : goal.returns
returns c = calls_refused
