use Rattle.std.proofs.Common.{◌≡◌, ◌∙◌, ap, min, arith, length, take}
use Rattle.std.proofs.lemmas.List.{take_min}
use Rattle.h1_model.specs.Trailers.{window_section}
use Rattle.h1_chunks.proofs.lines.section_cut.Goals as goal

pub returns-clause-cut : goal.returns-clause-cut
returns-clause-cut c =
    let text = c.args.text.now in
    let short : c.min.result ≡ min 65536 (length text) = omega (arith, c.min.ensures) in
    c.window_section.ensures.cut ∙ ap (λ n. window_section (take n text)) short ∙ ap window_section (take_min 65536 text)
