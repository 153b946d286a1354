use Rattle.law_bodies.proofs.Bounding.{taken_and_stay}
use Rattle.law_bodies.proofs.laws.lines_are_taken_and_stay.Goals as goal

pub returns : goal.returns
returns c = taken_and_stay
