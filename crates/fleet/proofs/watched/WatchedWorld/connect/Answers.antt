use Rattle.std.proofs.Common.{◌∷◌, []}
use Rattle.gate_io.specs.declared.event.Sent.TheVariants.{Connect}
use Rattle.gate_io.specs.declared.passed.Passed.TheVariants.{Took}
use Rattle.fleet.specs.Closing.{AreStanding}
use Rattle.fleet.proofs.Standing.{standing_more}
use Rattle.fleet.proofs.watched.WatchedWorld.connect.Goals as goal

pub invariant_of-self-2 : goal.invariant_of-self-2
invariant_of-self-2 g c =
    let are : AreStanding (g.W.World.trace c.self.inside.world) c.reserve.new.self.items = rw c.reserve.ensures.items c.self.invariant in
    standing_more (g.W.World.trace c.self.inside.world) (Took (Connect c.args.line) ∷ []) (g.W.World.trace c.connect.new.self) c.reserve.new.self.items c.put.new.list.items
    c.in_ok-connect.ensures.trace are c.put.ensures
