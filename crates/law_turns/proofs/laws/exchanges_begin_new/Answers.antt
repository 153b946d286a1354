use Rattle.law_turns.proofs.Begins.{begins_new}
use Rattle.law_turns.proofs.laws.exchanges_begin_new.Goals as goal

pub returns : goal.returns
returns c = begins_new
