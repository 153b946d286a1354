use Rattle.gate_io.specs.Passing.{front}
use Rattle.gate_io.specs.Reads.{happened-front}
use Rattle.gate_io.proofs.Worlds.{still_in_step}
use Rattle.gate_io.proofs.mem_world.MemWorld.offer.Goals as goal

pub invariant_of-self-2 : goal.invariant_of-self-2
invariant_of-self-2 c =
    rw c.in_ok-note_front.ensures.ok (still_in_step _ c.self.inside.trace.items (front c.args.line c.args.side c.args.bytes.now c.min-n.result) _ c.self.invariant
    (happened-front c.args.line c.args.side c.args.bytes.now c.min-n.result))
