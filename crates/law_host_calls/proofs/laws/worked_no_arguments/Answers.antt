use Rattle.law_host_calls.proofs.Wasi.{no_arguments}
use Rattle.law_host_calls.proofs.laws.worked_no_arguments.Goals as goal

pub returns : goal.returns
returns c = no_arguments
