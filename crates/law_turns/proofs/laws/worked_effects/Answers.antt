use Rattle.law_turns.proofs.Effects.{effect_examples}
use Rattle.law_turns.proofs.laws.worked_effects.Goals as goal

pub returns : goal.returns
returns c = effect_examples
