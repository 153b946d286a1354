use Rattle.std.proofs.Common.{[], ◌∷◌, refl}
use Rattle.gate_io.specs.declared.passed.Passed.TheVariants.{Asked}
use Rattle.gate_io.proofs.Worlds.{still_in_step}
use Rattle.gate_io.proofs.mem_world.MemWorld.fail.Goals as goal

pub invariant_of-self-2 : goal.invariant_of-self-2
invariant_of-self-2 c = rw c.in_ok-push.ensures.items (still_in_step _ c.self.inside.trace.items (Asked c.args.asked ∷ []) _ c.self.invariant refl)
