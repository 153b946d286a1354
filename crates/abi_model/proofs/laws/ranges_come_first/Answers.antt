use Rattle.abi_model.proofs.Isolated.{ranges_come_first, effect_stands}
use Rattle.abi_model.proofs.laws.ranges_come_first.Goals as goal

pub returns-clause-ranges : goal.returns-clause-ranges
returns-clause-ranges c = ranges_come_first

pub returns-clause-effect : goal.returns-clause-effect
returns-clause-effect c = effect_stands
