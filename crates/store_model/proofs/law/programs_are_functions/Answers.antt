use Rattle.store_model.specs.Followed.{reaches_followed}
use Rattle.store_model.specs.Sequential.{plays_run}
use Rattle.store_model.proofs.law.programs_are_functions.Goals as goal

pub returns-clause-replies : goal.returns-clause-replies
returns-clause-replies c = reaches_followed

pub returns-clause-stores : goal.returns-clause-stores
returns-clause-stores c = λ p s t a run. plays_run run
