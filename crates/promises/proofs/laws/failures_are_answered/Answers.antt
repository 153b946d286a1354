use Rattle.promises.proofs.Failing.{failures_are_answered}
use Rattle.promises.proofs.laws.failures_are_answered.Goals as goal

pub returns : goal.returns
returns c = failures_are_answered
