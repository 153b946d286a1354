use Rattle.store_model.proofs.Metrics.{refused_ask}
use Rattle.store_model.proofs.law.refused_asks_change_nothing.Goals as goal

pub returns : goal.returns
returns c = refused_ask
