use Rattle.gate_io.proofs.Worlds.{gave_in_step}
use Rattle.gate_io.proofs.mem_world.MemWorld.give.Goals as goal

pub invariant_of-self-2 : goal.invariant_of-self-2
invariant_of-self-2 c =
    rw (c.in_ok-push-2.ensures.items, c.in_ok-push.ensures.items, c.reserve.ensures.items, c.take_next-kept.ensures.left)
    (gave_in_step _ c.self.inside.trace.items c.self.inside.left.items c.args.asked c.in_ok-event.event c.take_next-kept.result c.is_stop_event-self-inside.result c.self.invariant
    c.in_ok-event.ensures c.take_next-kept.ensures.event c.is_stop_event-self-inside.ensures)
