use Rattle.std.proofs.Common.{ap, set, ◌-◌, ◌∙◌, Some}
use Rattle.metric_seats.proofs.Learning.{learns, learns_nothing, one_still}
use Rattle.metric_seats.proofs.table.MetricTable.define.Goals as goal

pub invariant_of-place-in-Id : goal.invariant_of-place-in-Id
invariant_of-place-in-Id g c = (
  c.learn.ensures
      ∙ (ap (λ n. set c.place.inside.known.kinds (n - 1) (Some c.args.kind)) c.get.ensures
      ∙ learns _ _ _ c.args.kind c.args.name.now _ _ _ c.with_turn.ensures.same c.in_ok-reply.ensures.done c.in_ok-call.ensures c.in-Id.is c.place.invariant.0),
  one_still _ _ _ c.with_turn.ensures.same c.place.invariant.1,
)

pub invariant_of-place-in_default : goal.invariant_of-place-in_default
invariant_of-place-in_default g c = (
  learns_nothing _ _ _ c.args.kind c.args.name.now _ _ c.with_turn.ensures.same c.in_ok-reply.ensures.done c.in_ok-call.ensures c.in_default.not-Id c.place.invariant.0,
  one_still _ _ _ c.with_turn.ensures.same c.place.invariant.1,
)
