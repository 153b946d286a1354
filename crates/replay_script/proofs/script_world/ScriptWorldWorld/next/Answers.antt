use Rattle.std.proofs.Common.{ap, ◌∙◌}
use Rattle.replay_script.specs.ScriptWorld.{last}
use Rattle.replay_script.proofs.Worlds.{last_gave}
use Rattle.replay_script.proofs.script_world.ScriptWorldWorld.next.Goals as goal

pub returns-clause-last : goal.returns-clause-last
returns-clause-last c = ap last c.give.ensures.new ∙ last_gave c.args.self.now c.args.wants.now c.give.result
