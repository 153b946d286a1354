use Rattle.std.proofs.Common.{rules}
use Rattle.turn_table.proofs.Keeps.{takes_turn}
use Rattle.turn_table.proofs.steps.try_take.Goals as goal

pub compare_exchange-requires : goal.compare_exchange-requires
compare_exchange-requires g c = (search rules, search rules, takes_turn g.S.Turned.acts _ _ _ _ c.requires.seat.0 c.requires.seat.1)
