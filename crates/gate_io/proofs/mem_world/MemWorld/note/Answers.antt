use Rattle.std.proofs.Common.{[], ◌∷◌, refl}
use Rattle.gate_io.specs.declared.passed.Passed.TheVariants.{Took}
use Rattle.gate_io.proofs.Worlds.{still_in_step}
use Rattle.gate_io.proofs.mem_world.MemWorld.note.Goals as goal

pub invariant_of-self-2 : goal.invariant_of-self-2
invariant_of-self-2 c = rw c.in_ok-push.ensures.items (still_in_step _ c.self.inside.trace.items (Took c.args.sent ∷ []) _ c.self.invariant refl)
