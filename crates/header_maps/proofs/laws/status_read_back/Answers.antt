use Rattle.header_maps.proofs.Found.{status_read_back as law}
use Rattle.header_maps.proofs.laws.status_read_back.Goals as goal

pub returns : goal.returns
returns c = law
