use Rattle.law_vms.proofs.Lives.{lives_keep}
use Rattle.law_vms.proofs.laws.lives_keep_places.Goals as goal

pub returns : goal.returns
returns c = lives_keep
