use Rattle.law_reading.proofs.Servers.{servers_since}
use Rattle.law_reading.proofs.laws.servers_read_since.Goals as goal

pub returns : goal.returns
returns g c = servers_since _
