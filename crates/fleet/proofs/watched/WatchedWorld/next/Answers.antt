use Rattle.std.proofs.Common.{◌∷◌, [], Err}
use Rattle.gate_io.specs.Passing.{asking}
use Rattle.gate_io.specs.declared.passed.Passed.TheVariants.{Asked, Gave}
use Rattle.fleet.specs.Closing.{AreStanding}
use Rattle.fleet.proofs.Standing.{asked_still, standing_more, stands_still}
use Rattle.fleet.proofs.watched.WatchedWorld.next.Goals as goal

pub invariant_of-self-in_err-event : goal.invariant_of-self-in_err-event
invariant_of-self-in_err-event g c =
    let are : AreStanding (g.W.World.trace c.self.inside.world) c.reserve.new.self.items = rw c.reserve.ensures.items c.self.invariant in
    stands_still (g.W.World.trace c.self.inside.world) (asking c.args.wants.now (Err c.in_err-event.field-0.0)) (g.W.World.trace c.next.new.self) c.reserve.new.self.items
    c.in_err-event.ensures.trace are (asked_still c.args.wants.now c.in_err-event.field-0.0)

pub invariant_of-self-2 : goal.invariant_of-self-2
invariant_of-self-2 g c =
    let are : AreStanding (g.W.World.trace c.self.inside.world) c.reserve.new.self.items = rw c.reserve.ensures.items c.self.invariant in
    standing_more (g.W.World.trace c.self.inside.world) (Asked c.args.wants.now ∷ Gave c.in_ok-event.event ∷ []) (g.W.World.trace c.next.new.self) c.reserve.new.self.items c.note.new.list.items
    c.in_ok-event.ensures.trace are c.note.ensures
