use Rattle.store_model.proofs.Queues.{dequeued_was_enqueued}
use Rattle.store_model.proofs.law.dequeued_is_what_was_enqueued.Goals as goal

pub returns : goal.returns
returns c = dequeued_was_enqueued
