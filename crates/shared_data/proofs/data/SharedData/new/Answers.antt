use Rattle.shared_data.proofs.Seeing.{kept_none}
use Rattle.shared_data.proofs.data.SharedData.new.Goals as goal

pub invariant_of-result : goal.invariant_of-result
invariant_of-result c = kept_none c.new.result.entries c.new.ensures.empty
