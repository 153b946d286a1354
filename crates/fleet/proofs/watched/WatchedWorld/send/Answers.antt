use Rattle.gate_io.specs.Passing.{sending}
use Rattle.fleet.proofs.Standing.{sending_still, stands_still}
use Rattle.fleet.proofs.watched.WatchedWorld.send.Goals as goal

pub invariant_of-self : goal.invariant_of-self
invariant_of-self g c =
    stands_still (g.W.World.trace c.self.inside.world) (sending c.args.line c.args.side c.args.bytes.now c.send.result) (g.W.World.trace c.send.new.self) c.self.inside.standing.items
    c.send.ensures.trace c.self.invariant (sending_still c.args.line c.args.side c.args.bytes.now c.send.result)
