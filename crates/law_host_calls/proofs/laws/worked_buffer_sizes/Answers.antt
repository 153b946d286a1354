use Rattle.law_host_calls.proofs.Buffers.{buffer_sizes}
use Rattle.law_host_calls.proofs.laws.worked_buffer_sizes.Goals as goal

pub returns : goal.returns
returns c = buffer_sizes
