use Rattle.gate_io.proofs.Worlds.{nature_offered, last_offered}
use Rattle.gate_io.proofs.mem_world.MemWorldWorld.send.Goals as goal

pub returns-clause-last : goal.returns-clause-last
returns-clause-last c = last_offered c.offer.result c.args.self.now c.offer.new.self c.args.line c.args.side c.args.bytes.now c.offer.ensures

pub returns-clause-nature : goal.returns-clause-nature
returns-clause-nature c = nature_offered c.offer.result c.args.self.now c.offer.new.self c.args.line c.args.side c.args.bytes.now c.offer.ensures
