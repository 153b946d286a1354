use Rattle.std.proofs.Common.{length}
use Rattle.abi_model.proofs.opening.+inside_from.Given as goal

abbrev pub decreases-inside_from : goal.decreases-inside_from
decreases-inside_from g l = length l.row.now
