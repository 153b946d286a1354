use Rattle.law_host_calls.proofs.Connections.{connection_paths}
use Rattle.law_host_calls.proofs.laws.worked_connection_paths.Goals as goal

pub returns : goal.returns
returns c = connection_paths
