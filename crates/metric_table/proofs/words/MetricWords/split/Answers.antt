use Rattle.std.proofs.Common.{rules, arith, ap, sym, ◌∙◌}
use Rattle.metric_table.specs.Seats.{Counting, view_in}
use Rattle.metric_table.specs.declared.view.View.{View}
use Rattle.metric_table.proofs.Parts.{splits_words}
use Rattle.metric_table.proofs.words.MetricWords.split.Goals as goal

pub split_seat-next-requires : goal.split_seat-next-requires
split_seat-next-requires c =
    let view = ap view_in c.pass_out-pass.ensures.view in
    let one = ap (λ (v : View). v.number) (sym view) ∙ (ap (λ (x : Counting). x.number) c.seat.view_is ∙ c.requires.1) in
    let given = ap (λ (v : View). v.given) (sym view) ∙ ap (λ (x : Counting). x.given) c.seat.view_is in
    (search rules, search rules, splits_words _ _ one (let small = c.requires.2 in omega (arith, given)))
