use Rattle.law_rest.proofs.Limits.{limits_are_small}
use Rattle.law_rest.proofs.laws.limits_are_small.Goals as goal

pub returns : goal.returns
returns c = limits_are_small
