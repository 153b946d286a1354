use Rattle.std.proofs.Common.{◌≡◌, ◌∙◌, arith, refl}
use Rattle.shared_queues.proofs.Trees.{Refreshed, one_up, at_the_top}
use Rattle.shared_queues.proofs.firsts.climb.Goals as goal

pub loop-at-preserved : goal.loop-at-preserved
loop-at-preserved c =
    let r : Refreshed c.loop-at.places c.refresh.new.places c.loop-at.at = record { long = c.refresh.auto.places; least = c.refresh.ensures.least; own = c.refresh.ensures.own; others = c.refresh.ensures.others } in (
      omega (arith, c.refresh.auto.places, c.loop-at.invariant.0),
      one_up c.loop-at.places c.refresh.new.places c.loop-at.at c.loop-at-test.true c.loop-at.invariant.1 r,
      c.refresh.ensures.whos ∙ c.loop-at.invariant.2,
      c.refresh.ensures.firsts ∙ c.loop-at.invariant.3,
    )

pub returns-clause-right : goal.returns-clause-right
returns-clause-right c =
    let top : c.loop-at.at ≡ 0 = omega (arith, c.loop-at-test.false) in
    let r : Refreshed c.loop-at.places c.refresh-2.new.places 0 = record { long = c.refresh-2.auto.places; least = c.refresh-2.ensures.least; own = c.refresh-2.ensures.own; others = c.refresh-2.ensures.others } in
    at_the_top c.loop-at.places c.refresh-2.new.places 0 refl (λ k w less apart few. c.loop-at.invariant.1 k w less (λ e. apart (e ∙ top)) few) r
