use Rattle.tcp_filters.proofs.Overs.{over_changes_nothing}
use Rattle.tcp_filters.proofs.laws.over_changes_nothing.Goals as goal

pub returns : goal.returns
returns c = over_changes_nothing
