use Rattle.law_host_calls.proofs.Bare.{no_allocator}
use Rattle.law_host_calls.proofs.laws.worked_no_allocator.Goals as goal

pub returns : goal.returns
returns c = no_allocator
