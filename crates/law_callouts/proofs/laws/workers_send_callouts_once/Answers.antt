use Rattle.law_callouts.proofs.GoingOut.{workers_go_out}
use Rattle.law_callouts.proofs.laws.workers_send_callouts_once.Goals as goal

pub returns : goal.returns
returns c = workers_go_out c.callbacks_change_their_own.ensures.contexts c.callbacks_change_their_own.ensures.stays
