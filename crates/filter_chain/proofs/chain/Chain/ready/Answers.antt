use Rattle.std.proofs.Common.{ap, sym, ◌∙◌, arith}
use Rattle.std.proofs.lemmas.List.{take_all}
use Rattle.filter_chain.specs.Chains.{may_be_picked}
use Rattle.filter_chain.proofs.Sizes.{ready_less, ready_here}
use Rattle.filter_chain.proofs.chain.Chain.ready.Goals as goal

pub loop-n-init : goal.loop-n-init
loop-n-init c = record { same = rw (take_all c.len-n.result c.self.inside.stages.items (omega arith)) (omega arith); within = omega arith }

pub loop-n-preserved : goal.loop-n-preserved
loop-n-preserved c =
    let e = ready_less c.self.inside.stages.items c.loop-n.n c.index.result.now (omega arith) (omega arith) (ap may_be_picked (sym c.index.ensures) ∙ (sym c.is_ready.ensures ∙ c.if-not-is_ready.true)) in
    record { same = omega arith; within = omega arith }

pub returns-else-not-is_ready-clause-ready : goal.returns-else-not-is_ready-clause-ready
returns-else-not-is_ready-clause-ready c =
    let e = ready_here c.self.inside.stages.items c.loop-n.n c.index.result.now (omega arith) (omega arith) (ap may_be_picked (sym c.index.ensures) ∙ (sym c.is_ready.ensures ∙ c.if-not-is_ready.false)) in
    rw (← c.self.view_is) (omega arith)
