use Rattle.gate_io.proofs.Worlds.{nature_answered, comes_next, last_answered}
use Rattle.gate_io.proofs.mem_world.MemWorldWorld.next.Goals as goal

pub returns-clause-script : goal.returns-clause-script
returns-clause-script c = comes_next c.answer.result c.args.self.now c.answer.new.self c.args.wants.now c.answer.ensures.answer

pub returns-clause-last : goal.returns-clause-last
returns-clause-last c = last_answered c.answer.result c.args.self.now c.answer.new.self c.args.wants.now c.answer.ensures.answer

pub returns-clause-nature : goal.returns-clause-nature
returns-clause-nature c = nature_answered c.answer.result c.args.self.now c.answer.new.self c.args.wants.now c.answer.ensures.answer
