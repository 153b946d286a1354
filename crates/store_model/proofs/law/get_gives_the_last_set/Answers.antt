use Rattle.store_model.proofs.Keys.{held_is_last_set}
use Rattle.store_model.proofs.law.get_gives_the_last_set.Goals as goal

pub returns : goal.returns
returns c = held_is_last_set
