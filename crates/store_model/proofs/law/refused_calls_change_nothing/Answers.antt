use Rattle.store_model.proofs.Refusals.{refused_changes_nothing}
use Rattle.store_model.proofs.law.refused_calls_change_nothing.Goals as goal

pub returns : goal.returns
returns c = refused_changes_nothing
