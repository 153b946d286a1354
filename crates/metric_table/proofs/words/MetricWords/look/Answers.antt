use Rattle.std.proofs.Common.{rules, ◌<◌, ap, subst, ◌∙◌}
use Rattle.metric_table.specs.Seats.{view_in}
use Rattle.metric_table.specs.declared.view.View.{View}
use Rattle.metric_table.proofs.Keeps.{reads}
use Rattle.metric_table.proofs.words.MetricWords.look.Goals as goal

pub load-found-requires : goal.load-found-requires
load-found-requires c =
    let view = ap view_in c.pass_out-pass.ensures.view in
    let who = c.seat.invariant.1 ∙ ap (λ (x : View). x.number) view in
    (search rules, search rules, reads _ _ _ _ (subst (λ n. 0 < n) who c.seat.invariant.3))
