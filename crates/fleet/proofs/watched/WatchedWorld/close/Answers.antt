use Rattle.std.proofs.Common.{◌∷◌, []}
use Rattle.gate_io.specs.declared.event.Sent.TheVariants.{Close}
use Rattle.gate_io.specs.declared.passed.Passed.TheVariants.{Took}
use Rattle.fleet.proofs.Standing.{standing_more}
use Rattle.fleet.proofs.watched.WatchedWorld.close.Goals as goal

pub invariant_of-self-2 : goal.invariant_of-self-2
invariant_of-self-2 g c =
    standing_more (g.W.World.trace c.self.inside.world) (Took (Close c.args.line c.args.side) ∷ []) (g.W.World.trace c.close.new.self) c.self.inside.standing.items c.take_out.new.list.items
    c.in_ok-close.ensures.trace c.self.invariant c.take_out.ensures.gone
