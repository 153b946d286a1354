use Rattle.law_lines.proofs.AlikeSteps.{steps_depend}
use Rattle.law_lines.proofs.laws.steps_depend_on_their_line.Goals as goal

pub returns : goal.returns
returns g c = steps_depend _ _
