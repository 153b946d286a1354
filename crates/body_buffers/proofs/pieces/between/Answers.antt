use Rattle.std.proofs.Common.{rules}
use Rattle.body_buffers.proofs.Cuts.{AreFull-nil}
use Rattle.body_buffers.proofs.pieces.between.Goals as goal

pub returns-clause-full : goal.returns-clause-full
returns-clause-full c = let nil = AreFull-nil in search rules
