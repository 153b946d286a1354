use Rattle.law_read_back.proofs.Lists.{filters_keep_lists, heads_have_lists, list_example}
use Rattle.law_read_back.proofs.laws.filters_keep_lists.Goals as goal

pub returns : goal.returns
returns c = record { kept = filters_keep_lists; first = heads_have_lists; worked = list_example }
