use Rattle.law_bodies.proofs.Stepwise.{interims_down}
use Rattle.law_bodies.proofs.laws.interim_heads_go_down.Goals as goal

pub returns : goal.returns
returns c = interims_down
