use Rattle.law_chain.proofs.Through.{bodies_pass}
use Rattle.law_chain.proofs.laws.bodies_pass_through.Goals as goal

pub returns : goal.returns
returns c = bodies_pass
