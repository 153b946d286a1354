use Rattle.law_reading.proofs.Servers.{servers_read}
use Rattle.law_reading.proofs.laws.servers_read_what_came.Goals as goal

pub returns : goal.returns
returns g c = servers_read _
