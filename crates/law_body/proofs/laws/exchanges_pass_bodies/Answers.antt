use Rattle.law_body.proofs.Deeds.{exchanges_pass}
use Rattle.law_body.proofs.laws.exchanges_pass_bodies.Goals as goal

pub returns : goal.returns
returns c = exchanges_pass
