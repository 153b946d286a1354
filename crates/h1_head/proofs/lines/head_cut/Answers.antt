use Rattle.std.proofs.Common.{◌≡◌, ◌∙◌, ap, min, arith, length, take}
use Rattle.std.proofs.lemmas.List.{take_min}
use Rattle.h1_model.specs.Lines.{window_cut}
use Rattle.h1_head.proofs.lines.head_cut.Goals as goal

pub returns-clause-cut : goal.returns-clause-cut
returns-clause-cut c =
    let text = c.args.text.now in
    let short : c.min.result ≡ min 65536 (length text) = omega (arith, c.min.ensures) in
    c.window_cut.ensures.cut ∙ ap (λ n. window_cut (take n text)) short ∙ ap window_cut (take_min 65536 text)
