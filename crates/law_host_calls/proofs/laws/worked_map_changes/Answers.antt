use Rattle.law_host_calls.proofs.MapRows.{map_changes}
use Rattle.law_host_calls.proofs.laws.worked_map_changes.Goals as goal

pub returns : goal.returns
returns c = map_changes
