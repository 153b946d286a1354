use Rattle.law_host_calls.proofs.Services.{path_examples}
use Rattle.law_host_calls.proofs.laws.worked_path.Goals as goal

pub returns : goal.returns
returns c = path_examples
