use Rattle.law_host_calls.proofs.Connections.{connection_streams}
use Rattle.law_host_calls.proofs.laws.worked_connection.Goals as goal

pub returns : goal.returns
returns c = connection_streams
