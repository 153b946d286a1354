use Rattle.law_read_back.proofs.Staying.{maps_of_the_product}
use Rattle.law_read_back.proofs.laws.maps_of_the_product_stay_lists.Goals as goal

pub returns : goal.returns
returns g c = maps_of_the_product _ _
