use Rattle.promises.proofs.Due.{due_comes}
use Rattle.promises.proofs.laws.what_is_due_comes.Goals as goal

pub returns : goal.returns
returns c = due_comes
