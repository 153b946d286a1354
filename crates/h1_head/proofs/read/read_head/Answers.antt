use Rattle.std.proofs.Common.{drop, ap, ◌∙◌}
use Rattle.std.proofs.lemmas.List.{take_rest}
use Rattle.h1_model.specs.Lines.{empty_line_bytes}
use Rattle.h1_model.proofs.LineLemmas.{skipped-after_empty_lines}
use Rattle.h1_head.proofs.read.read_head.Goals as goal

pub answer-requires-clause-filled : goal.answer-requires-clause-filled
answer-requires-clause-filled c =
    let text = c.args.text.now in
    ap empty_line_bytes (take_rest text c.skip_empty_lines-skipped.result)
    ∙ ap (λ n. empty_line_bytes (drop n text)) c.skip_empty_lines-skipped.ensures.value ∙ skipped-after_empty_lines text
