use Rattle.std.proofs.Common.{◌∙◌, ap, ℕ}
use Rattle.gate_io.specs.MemoryWorld.{next_of}
use Rattle.replay_script.proofs.Worlds.{nature_gave, gave_in_step}
use Rattle.replay_script.proofs.script_world.ScriptWorld.give.Goals as goal

pub invariant_of-self : goal.invariant_of-self
invariant_of-self c =
    gave_in_step c.self.inside.moment c.self.inside.taken.items c.clear.new.self.items c.self.inside.trace.steps c.gave-self-inside.result.steps c.self.inside.left.items c.take_next-event.new.left.items
    c.args.wants.now c.take_next-event.result c.self.invariant c.take_next-event.ensures.event c.take_next-event.ensures.left c.clear.ensures.items c.gave-self-inside.ensures

pub returns-clause-nature : goal.returns-clause-nature
returns-clause-nature c =
    rw (c.gave-self-inside.ensures, c.take_next-event.ensures.left, ← c.self.view_is)
    (nature_gave (record { trace = c.self.inside.trace.steps; left = c.self.inside.left.items }) c.args.wants.now c.take_next-event.result
    (c.take_next-event.ensures.event ∙ ap (λ (n : ℕ). next_of n c.self.inside.left.items) c.self.invariant.moment))
