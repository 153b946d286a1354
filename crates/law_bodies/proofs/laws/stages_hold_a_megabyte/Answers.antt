use Rattle.law_bodies.proofs.Bounding.{hold_a_megabyte}
use Rattle.law_bodies.proofs.laws.stages_hold_a_megabyte.Goals as goal

pub returns : goal.returns
returns c = hold_a_megabyte
