use Rattle.handoff.proofs.Relays.{in_order}
use Rattle.handoff.proofs.law.lines_are_taken_in_order.Goals as goal

pub returns : goal.returns
returns g c = in_order g.L.HasLine.line
