use Rattle.law_host_calls.proofs.Buffers.{buffer_reads}
use Rattle.law_host_calls.proofs.laws.worked_buffer_reads.Goals as goal

pub returns : goal.returns
returns c = buffer_reads
