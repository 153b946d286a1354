use Rattle.store_model.proofs.Metrics.{define_is_named}
use Rattle.store_model.proofs.law.definitions_are_calls.Goals as goal

pub returns : goal.returns
returns c = define_is_named
