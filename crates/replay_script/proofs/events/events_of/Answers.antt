use Rattle.std.proofs.Common.{◌≡◌, List, sym, subst, arith}
use Rattle.std.proofs.lemmas.Grind.{common_steps}
use Rattle.gate_io.specs.declared.event.Event.{Event}
use Rattle.gate_io.specs.Events.{AreInOrder, nothing_given}
use Rattle.replay_script.specs.Scripts.{events_of}
use Rattle.replay_script.proofs.Orders.{events_in_order}
use Rattle.replay_script.proofs.events.events_of.Goals as goal

pub returns-clause-order : goal.returns-clause-order
returns-clause-order c = λ workers lines.
    let are : c.push-2.new.self.items ≡ events_of c.args.commands.items = grind (arith, common_steps) in
    subst (λ (es : List Event). AreInOrder nothing_given es) (sym are) (events_in_order workers c.args.commands.items lines)
