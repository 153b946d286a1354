use Rattle.std.proofs.Common.{◌∙◌, sym, arith}
use Rattle.h1_model.proofs.LineLemmas.{window_cut-none, window_cut-first, cut_from-next, cut_from-end, cut_from-none}
use Rattle.h1_head.proofs.lines.window_cut.Goals as goal

pub returns-in_default-clause-cut : goal.returns-in_default-clause-cut
returns-in_default-clause-cut c = c.open_cut.ensures ∙ sym (window_cut-none _ c.in_default.ensures.lines)

pub loop-len-init : goal.loop-len-init
loop-len-init c = record {
  within = c.in-Some.ensures.within.1;
  few = omega arith;
  cut = window_cut-first _ _ c.in-Some.ensures.within.1 c.in-Some.ensures.lines;
}

pub returns-then-is_empty_line-clause-cut : goal.returns-then-is_empty_line-clause-cut
returns-then-is_empty_line-clause-cut c =
    c.closed_cut.ensures.cut
    ∙ cut_from-end _ c.args.window.now _ _ _ c.in-Some-line_len_at.ensures.within.1 c.in-Some-line_len_at.ensures.lines (sym c.if-is_empty_line.ensures)
    ∙ c.loop-len.invariant.cut

pub returns-clause-cut : goal.returns-clause-cut
returns-clause-cut c =
    c.open_cut-2.ensures ∙ cut_from-none _ c.args.window.now _ _ c.in_default-line_len_at.ensures.lines ∙ c.loop-len.invariant.cut

pub loop-len-preserved : goal.loop-len-preserved
loop-len-preserved c = record {
  within = omega (arith, c.in-Some-line_len_at.ensures.within);
  few = omega (arith, c.in-Some-line_len_at.ensures.within);
  cut = cut_from-next _ c.args.window.now _ _ _ c.in-Some-line_len_at.ensures.within.1 c.in-Some-line_len_at.ensures.lines (sym c.if-is_empty_line.ensures)
      ∙ c.loop-len.invariant.cut;
}
