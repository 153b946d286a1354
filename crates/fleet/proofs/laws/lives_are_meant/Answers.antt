use Rattle.fleet.proofs.Meant.{lives_are_meant}
use Rattle.fleet.proofs.laws.lives_are_meant.Goals as goal

pub returns : goal.returns
returns g c = lives_are_meant g.H.Host.calling
