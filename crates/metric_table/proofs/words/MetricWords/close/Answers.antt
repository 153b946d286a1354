use Rattle.std.proofs.Common.{arith, ap, sym, subst, ◌∙◌, take_all}
use Rattle.metric_table.specs.Seats.{Counting, Shut, counting, view_in}
use Rattle.metric_table.specs.declared.view.View.{View}
use Rattle.metric_table.proofs.Closes.{closes, taken}
use Rattle.metric_table.proofs.words.MetricWords.close.Goals as goal

pub loop-place-preserved : goal.loop-place-preserved
loop-place-preserved c = (
  taken _ _ _ _ _ c.loop-place.invariant.0 c.word.ensures c.in-Ok.ensures.items,
  (let a = c.loop-place.invariant.1 in let b = c.in-Ok.ensures.capacity in omega arith),
)

pub returns : goal.returns
returns c =
    let view = ap view_in c.into_seat.ensures.2 in
    let one = ap (λ (v : View). v.number) (sym view) ∙ (ap (λ (x : Counting). x.number) c.seat.view_is ∙ c.requires.1) in
    let shut = closes c.seat.inside.badge.table_id _ _ _ _ one c.close_with-closed.ensures.values.2 in
    let seat = ap (counting c.seat.inside.badge.table_id) (sym view) ∙ c.seat.view_is in
    let all = c.loop-place.invariant.0 ∙ take_all _ _ (let n = shut.as_many in omega arith) in
    subst (Shut c.args.seat) (sym all) (subst (λ s. Shut s c.close_with-closed.result.words.items) seat shut)
