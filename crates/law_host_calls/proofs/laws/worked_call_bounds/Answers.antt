use Rattle.law_host_calls.proofs.HttpCalls.{call_bounds}
use Rattle.law_host_calls.proofs.laws.worked_call_bounds.Goals as goal

pub returns : goal.returns
returns c = call_bounds
