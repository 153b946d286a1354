use Rattle.law_flow.proofs.Effects.{asking_elsewhere, callbacks_are, effects_seen}
use Rattle.law_flow.proofs.laws.callbacks_of_others.Goals as goal

pub returns-clause-effects : goal.returns-clause-effects
returns-clause-effects g c = effects_seen

pub returns-clause-callbacks : goal.returns-clause-callbacks
returns-clause-callbacks g c = callbacks_are _

pub returns-clause-asking : goal.returns-clause-asking
returns-clause-asking g c = asking_elsewhere
