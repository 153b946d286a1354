use Rattle.law_read_back.proofs.Mapped.{map_examples}
use Rattle.law_read_back.proofs.laws.worked_maps.Goals as goal

pub returns : goal.returns
returns c = map_examples
