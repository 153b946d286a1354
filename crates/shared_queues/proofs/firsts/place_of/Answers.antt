use Rattle.std.proofs.Common.{◌∙◌}
use Rattle.shared_queues.proofs.Trees.{to_the_right, own_read}
use Rattle.shared_queues.proofs.firsts.place_of.Goals as goal

pub loop-at-preserved : goal.loop-at-preserved
loop-at-preserved c =
    let s = to_the_right c.args.places.now c.loop-at.at c.args.worker c.args.least c.requires.right c.requires.worker c.requires.some c.loop-at.invariant.0 c.loop-at.invariant.1
    (λ e. c.loop-at-test.true (c.own.ensures ∙ own_read c.args.places.now c.loop-at.at c.args.worker c.index-places-at.result c.index-places-at.is c.loop-at.invariant.0 ∙ e)) (λ e. c.if-least_at-least.false (c.least_at.ensures ∙ e)) in
    (s.within, s.is)
