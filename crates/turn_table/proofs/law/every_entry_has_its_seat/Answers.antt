use Rattle.turn_table.proofs.Rows.{has_seat}
use Rattle.turn_table.proofs.law.every_entry_has_its_seat.Goals as goal

pub returns : goal.returns
returns g c v value count closed k d within = has_seat g.S.Turned.acts v value count closed k d within
