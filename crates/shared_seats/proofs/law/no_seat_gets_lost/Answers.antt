use Rattle.shared_seats.proofs.Laws.{all_go_on}
use Rattle.shared_seats.proofs.law.no_seat_gets_lost.Goals as goal

pub returns : goal.returns
returns c = all_go_on
