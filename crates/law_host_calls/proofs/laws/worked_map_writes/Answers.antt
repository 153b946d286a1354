use Rattle.law_host_calls.proofs.MapRows.{map_writes}
use Rattle.law_host_calls.proofs.laws.worked_map_writes.Goals as goal

pub returns : goal.returns
returns c = map_writes
