use Rattle.std.proofs.Common.{refl}
use Rattle.law_opcodes.proofs.laws.floats_by_their_bytes.Goals as goal

pub returns : goal.returns
returns c = record { floats = refl }
