use Rattle.std.proofs.Common.{[], ◌∷◌, ◌++◌, take, ap, sym, ◌∙◌, append_assoc, arith}
use Rattle.std.proofs.lemmas.List.{take_more}
use Rattle.metric_lines.specs.Lines.{metric_line, metric_lines}
use Rattle.metric_lines.proofs.More.{lines_more}
use Rattle.metric_lines.proofs.lines.put_lines.Goals as goal

pub loop-place-preserved : goal.loop-place-preserved
loop-place-preserved c =
    let told = c.args.told.now in let k = c.loop-place.place in let m = c.index-told-place.result in let vm = c.args.vm.now in
    c.in_ok-put_line.ensures ∙ (ap (λ o. o ++ metric_line vm m) c.loop-place.invariant
    ∙ (append_assoc c.args.out.now (metric_lines vm (take k told)) (metric_line vm m)
    ∙ ap (λ l. c.args.out.now ++ l) (sym (ap (metric_lines vm) (take_more told k m (omega arith)
    ∙ ap (λ x. take k told ++ x ∷ []) (sym c.index-told-place.is)) ∙ lines_more vm (take k told) m))))
