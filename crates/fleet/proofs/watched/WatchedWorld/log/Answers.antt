use Rattle.std.proofs.Common.{refl}
use Rattle.gate_io.specs.Passing.{taking}
use Rattle.gate_io.specs.declared.event.Sent.TheVariants.{Log}
use Rattle.fleet.proofs.Standing.{log_still, stands_still}
use Rattle.fleet.proofs.watched.WatchedWorld.log.Goals as goal

pub invariant_of-self : goal.invariant_of-self
invariant_of-self g c =
    stands_still (g.W.World.trace c.self.inside.world) (taking (Log c.args.level c.args.text.now) c.log.result) (g.W.World.trace c.log.new.self) c.self.inside.standing.items
    c.log.ensures.trace c.self.invariant (log_still c.log.result (Log c.args.level c.args.text.now) (λ d now. refl))
