use Rattle.law_down.proofs.Turnwise.{connections_of_the_product}
use Rattle.law_down.proofs.laws.connections_of_the_product_go_in_order.Goals as goal

pub returns : goal.returns
returns g c = connections_of_the_product _ _
