use Rattle.law_lines.proofs.Product.{requests_of_the_product_go_up}
use Rattle.law_lines.proofs.laws.requests_of_the_product_go_up.Goals as goal

pub returns : goal.returns
returns g c = requests_of_the_product_go_up _ _
