use Rattle.filter_chain.proofs.Flows.{all_keep}
use Rattle.filter_chain.proofs.laws.what_passes_is_what_came.Goals as goal

pub returns : goal.returns
returns c = all_keep
