use Rattle.law_host_calls.proofs.MapRows.{map_reads}
use Rattle.law_host_calls.proofs.laws.worked_map_reads.Goals as goal

pub returns : goal.returns
returns c = map_reads
