use Rattle.std.proofs.Common.{refl}
use Rattle.std.specs.Fmt.{digits}
use Rattle.command_generate.proofs.laws.worked_lines.Goals as goal

pub returns : goal.returns
unfolding digits
returns c = record { texts = refl; lines = refl; none = refl; tally = refl }
