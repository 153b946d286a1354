use Rattle.store_model.proofs.Keys.{numbers_rise}
use Rattle.store_model.proofs.law.numbers_rise_by_one.Goals as goal

pub returns : goal.returns
returns c = numbers_rise
