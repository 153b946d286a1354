use Rattle.law_host_calls.proofs.Wasi.{random_examples}
use Rattle.law_host_calls.proofs.laws.worked_random.Goals as goal

pub returns : goal.returns
returns c = random_examples
