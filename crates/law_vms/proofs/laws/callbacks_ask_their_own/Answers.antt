use Rattle.law_vms.proofs.OwnStores.{ask_their_own}
use Rattle.law_vms.proofs.laws.callbacks_ask_their_own.Goals as goal

pub returns : goal.returns
returns c = ask_their_own
