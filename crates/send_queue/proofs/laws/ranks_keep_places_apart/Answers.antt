use Rattle.send_queue.proofs.Sorting.{rank_apart, together}
use Rattle.send_queue.proofs.laws.ranks_keep_places_apart.Goals as goal

pub returns : goal.returns
returns c = record { apart = rank_apart; together = together }
