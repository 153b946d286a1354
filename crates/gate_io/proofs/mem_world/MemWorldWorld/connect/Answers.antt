use Rattle.gate_io.proofs.Worlds.{nature_taken, last_taken}
use Rattle.gate_io.proofs.mem_world.MemWorldWorld.connect.Goals as goal

pub returns-clause-last : goal.returns-clause-last
returns-clause-last c = last_taken c.take.result _ _ _ c.take.ensures

pub returns-clause-nature : goal.returns-clause-nature
returns-clause-nature c = nature_taken c.take.result _ _ _ c.take.ensures
