use Rattle.store_model.proofs.StoreLimits.{limits_hold}
use Rattle.store_model.proofs.law.limits_hold.Goals as goal

pub returns : goal.returns
returns c = limits_hold
