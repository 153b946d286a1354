use Rattle.contexts.proofs.Holding.{holds_its_own}
use Rattle.contexts.proofs.laws.stages_hold_their_own.Goals as goal

pub returns : goal.returns
returns c = holds_its_own
