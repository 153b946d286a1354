use Rattle.exchange.proofs.Trailing.{no_listed_trailer}
use Rattle.exchange.proofs.laws.no_listed_trailer_goes_out.Goals as goal

pub returns : goal.returns
returns c = no_listed_trailer
