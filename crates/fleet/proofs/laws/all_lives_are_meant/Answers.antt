use Rattle.fleet.proofs.Cutting.{all_lives_are_meant}
use Rattle.fleet.proofs.laws.all_lives_are_meant.Goals as goal

pub returns : goal.returns
returns g c = all_lives_are_meant g.H.Host.calling
