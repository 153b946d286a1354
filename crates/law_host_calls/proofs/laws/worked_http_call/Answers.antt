use Rattle.law_host_calls.proofs.HttpCalls.{calls_made}
use Rattle.law_host_calls.proofs.laws.worked_http_call.Goals as goal

pub returns : goal.returns
returns c = calls_made
