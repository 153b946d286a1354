use Rattle.std.proofs.Common.{◌≡◌, ◌∙◌, ◌++◌, List, ap, sym, subst, arith}
use Rattle.std.proofs.lemmas.Grind.{common_steps}
use Rattle.gate_io.specs.declared.event.Event.{Event}
use Rattle.gate_io.specs.Events.{AreInOrder, nothing_given}
use Rattle.workload.specs.Events.{events_of, share}
use Rattle.workload.proofs.Sharing.{all_in_order, nobody_first, one_more}
use Rattle.workload.proofs.exchanges.events.Goals as goal

pub loop-i-init : goal.loop-i-init
loop-i-init c = c.new-events.ensures.items ∙ sym (nobody_first c.args.n c.args.who)

pub loop-i-preserved : goal.loop-i-preserved
loop-i-preserved c =
    c.in_ok-put_share.ensures ∙ ap (λ (xs : List Event). xs ++ share c.args.n c.args.who c.loop-i.i) c.loop-i.invariant ∙ sym (one_more c.args.n c.args.who c.loop-i.i)

pub returns-clause-order : goal.returns-clause-order
returns-clause-order c =
    let are : c.put.new.events.items ≡ events_of c.args.n c.args.who = grind (arith, common_steps) in
    subst (λ (es : List Event). AreInOrder nothing_given es) (sym are) (all_in_order c.args.n c.args.who)
