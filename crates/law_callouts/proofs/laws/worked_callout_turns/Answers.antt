use Rattle.law_callouts.proofs.Calls.{callout_turns}
use Rattle.law_callouts.proofs.laws.worked_callout_turns.Goals as goal

pub returns : goal.returns
returns c = callout_turns
