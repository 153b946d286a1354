use Rattle.law_host_calls.proofs.Buffers.{buffer_writes}
use Rattle.law_host_calls.proofs.laws.worked_buffer_writes.Goals as goal

pub returns : goal.returns
returns c = buffer_writes
