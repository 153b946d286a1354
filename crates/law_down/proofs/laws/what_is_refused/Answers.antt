use Rattle.law_down.proofs.Refusing.{refuses}
use Rattle.law_down.proofs.laws.what_is_refused.Goals as goal

pub returns : goal.returns
returns c = refuses
