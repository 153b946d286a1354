use Rattle.law_vms.proofs.SeesItsOwn.{see_their_own, are_unseen}
use Rattle.law_vms.proofs.laws.callbacks_see_their_own.Goals as goal

pub returns-clause-sees : goal.returns-clause-sees
returns-clause-sees c = see_their_own

pub returns-clause-unseen : goal.returns-clause-unseen
returns-clause-unseen c = are_unseen
