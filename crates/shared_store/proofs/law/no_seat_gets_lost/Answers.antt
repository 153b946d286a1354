use Rattle.shared_store.proofs.Gathering.{all_go_on}
use Rattle.shared_store.proofs.law.no_seat_gets_lost.Goals as goal

pub returns : goal.returns
returns c = all_go_on
