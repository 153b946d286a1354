use Rattle.replay_script.proofs.Worlds.{nature_took, last_took, took_in_step}
use Rattle.replay_script.proofs.script_world.ScriptWorld.take.Goals as goal

pub invariant_of-self-2 : goal.invariant_of-self-2
invariant_of-self-2 c =
    took_in_step c.self.inside.moment c.self.inside.taken.items c.push.new.self.items c.self.inside.trace.steps c.took-trace.result.steps c.self.inside.left.items c.args.sent
    c.self.invariant c.in_ok-push.ensures.items c.took-trace.ensures

pub returns-clause-nature : goal.returns-clause-nature
returns-clause-nature c = rw (c.took-trace.ensures, ← c.self.view_is) (nature_took (record { trace = c.self.inside.trace.steps; left = c.self.inside.left.items }) c.args.sent)

pub returns-clause-last : goal.returns-clause-last
returns-clause-last c = rw (c.took-trace.ensures, ← c.self.view_is) (last_took (record { trace = c.self.inside.trace.steps; left = c.self.inside.left.items }) c.args.sent)
