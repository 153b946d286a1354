use Rattle.send_queue.proofs.Offers.{offered_early}
use Rattle.send_queue.proofs.outbox.Outbox.deliver.Goals as goal

pub returns-in_err-sent-clause-offered : goal.returns-in_err-sent-clause-offered
returns-in_err-sent-clause-offered g c = offered_early _ _ _ _ _ c.from_residual.ensures.0
