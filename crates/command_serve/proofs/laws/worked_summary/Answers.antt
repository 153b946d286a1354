use Rattle.std.proofs.Common.{refl}
use Rattle.std.specs.Fmt.{digits}
use Rattle.hex.specs.Hex.{encode_with}
use Rattle.command_serve.proofs.laws.worked_summary.Goals as goal

pub returns : goal.returns
unfolding digits encode_with
returns c = refl
