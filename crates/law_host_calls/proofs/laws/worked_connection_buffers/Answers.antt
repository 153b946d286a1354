use Rattle.law_host_calls.proofs.Connections.{connection_buffers}
use Rattle.law_host_calls.proofs.laws.worked_connection_buffers.Goals as goal

pub returns : goal.returns
returns c = connection_buffers
