use Rattle.store_model.specs.Parts.{keys_applied, queues_applied}
use Rattle.store_model.proofs.law.parts_are_the_whole.Goals as goal

pub returns-clause-keys : goal.returns-clause-keys
returns-clause-keys c = keys_applied

pub returns-clause-queues : goal.returns-clause-queues
returns-clause-queues c = queues_applied
