use Rattle.law_reading.proofs.Wholly.{little_unread}
use Rattle.law_reading.proofs.laws.workers_leave_little_unread.Goals as goal

pub returns : goal.returns
returns g c = little_unread _ _ _
