use Rattle.std.proofs.Common.{rules, ◌<◌, ◌+◌, ◌%◌, ap, sym, subst, ◌∙◌}
use Rattle.store_model.specs.declared.metric.MetricKind.TheVariants.{Gauge}
use Rattle.metric_table.specs.Places.{IsOfCounter, row_of}
use Rattle.metric_table.specs.Seats.{view_in}
use Rattle.metric_table.specs.declared.view.View.{View}
use Rattle.metric_table.proofs.Calls.{in_row, no_gauge}
use Rattle.metric_table.proofs.Keeps.{writes}
use Rattle.metric_table.proofs.words.MetricWords.put.Goals as goal

pub store-requires : goal.store-requires
store-requires c =
    let low = c.requires.id.0 in
    let high = c.requires.id.1 in
    let view = ap view_in c.pass_out-pass.ensures.view in
    let who = c.seat.invariant.1 ∙ ap (λ (x : View). x.number) view in
    let at = c.place-at.ensures.value in
    let live = subst (λ n. 0 < n) who c.seat.invariant.3 in
    let row = at ∙ (in_row _ Gauge c.args.id low high ∙ ((λ i. row_of (who i) + sym at i % 128))) in
    (search rules, search rules, writes _ _ _ _ _ live row (λ of. no_gauge _ c.args.id low high (subst IsOfCounter at of)))
