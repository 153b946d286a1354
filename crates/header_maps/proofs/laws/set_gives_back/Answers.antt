use Rattle.header_maps.proofs.GivenBack.{set_gives_back as law}
use Rattle.header_maps.proofs.laws.set_gives_back.Goals as goal

pub returns : goal.returns
returns c = law
