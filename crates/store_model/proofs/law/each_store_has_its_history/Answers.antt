use Rattle.store_model.specs.Sequential.{performs_part}
use Rattle.store_model.proofs.law.each_store_has_its_history.Goals as goal

pub returns : goal.returns
returns c = performs_part
