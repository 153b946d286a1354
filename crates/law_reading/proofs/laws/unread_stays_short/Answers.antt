use Rattle.law_reading.proofs.Limits.{unread_stays_short}
use Rattle.law_reading.proofs.laws.unread_stays_short.Goals as goal

pub returns : goal.returns
returns g c = unread_stays_short _
