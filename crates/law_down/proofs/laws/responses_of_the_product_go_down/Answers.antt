use Rattle.law_down.proofs.Turning.{responses_of_the_product}
use Rattle.law_down.proofs.laws.responses_of_the_product_go_down.Goals as goal

pub returns : goal.returns
returns g c = responses_of_the_product _ _
