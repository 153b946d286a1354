use Rattle.std.proofs.Common.{◌≡◌, ◌+◌, ◌<◌, [], ◌∷◌, ◌++◌, List, length, take, get_or, ap, sym, subst, ◌∙◌, arith}
use Rattle.std.proofs.lemmas.List.{length-take-le, take_more}
use Rattle.store_model.specs.declared.metric.MetricName.{MetricName}
use Rattle.metric_lines.specs.Totals.{put_all, put_in, totals_from}
use Rattle.metric_lines.specs.declared.totals.MetricTotal.{MetricTotal}
use Rattle.metric_lines.proofs.More.{told_more, total_at}
use Rattle.metric_lines.proofs.totals.metric_totals.Goals as goal

pub loop-place-preserved : goal.loop-place-preserved
loop-place-preserved c =
    let names : List MetricName = c.args.closed.now.names.names in let words = c.args.closed.now.totals in
    let n : MetricName = c.index-names-place.result in let k = c.loop-place.place in
    let all = c.names-names.ensures.names in
    let inside : k < length names = subst (λ (l : List MetricName). k < length l) all c.loop-place-test.true in
    let here : n ≡ get_or names k n = c.index-names-place.is ∙ ap (λ (l : List MetricName). get_or l k n) all in
    let one : take (k + 1) names ≡ take k names ++ n ∷ [] = take_more names k n inside ∙ ap (λ x. take k names ++ x ∷ []) (sym here) in
    let put : MetricTotal = record { kind = n.kind; name = c.in_ok-copy.field-0; total = c.total.result } in
    let is : put ≡ total_at words (k + 1) n = λ i. record { kind = n.kind; name = c.in_ok-copy.ensures i; total = c.total.ensures i } in
    c.in_ok-put.ensures ∙ ((λ i. put_in (is i) (c.loop-place.invariant i))
    ∙ (sym (told_more words (take k names) n k (length-take-le k names (omega arith))) ∙ ap (λ l. put_all (totals_from words 1 l) []) (sym one)))
