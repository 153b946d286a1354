use Rattle.law_body.proofs.Apart.{exchanges_pass_by}
use Rattle.law_body.proofs.laws.exchanges_pass_by.Goals as goal

pub returns : goal.returns
returns c = exchanges_pass_by
