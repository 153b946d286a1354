use Rattle.std.proofs.Common.{rules, ◌<◌, ap, sym, subst, ◌∙◌}
use Rattle.metric_table.specs.Seats.{Counting, view_in}
use Rattle.metric_table.specs.declared.view.View.{View}
use Rattle.metric_table.proofs.Meets.{joins_words}
use Rattle.metric_table.proofs.words.MetricWords.join.Goals as goal

pub join_seat-requires : goal.join_seat-requires
join_seat-requires c =
    let view = ap view_in c.pass_out-pass.ensures.view in
    let one = ap (λ (v : View). v.number) (sym view) ∙ (ap (λ (x : Counting). x.number) c.seat.view_is ∙ c.requires.2) in
    let other = ap view_in c.into_seat.ensures.2 in
    let live = subst (λ (v : View). 0 < v.number) other (subst (λ n. 0 < n) c.other.invariant.1 c.other.invariant.3) in
    (search rules, search rules, search rules, search rules, joins_words _ _ _ _ one live)
