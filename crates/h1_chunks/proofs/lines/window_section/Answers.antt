use Rattle.std.proofs.Common.{[], length, ◌∙◌, sym, arith}
use Rattle.h1_model.specs.Lines.{whole_lines}
use Rattle.h1_model.proofs.LineLemmas.{cut_from-first, cut_from-next, cut_from-end, cut_from-none}
use Rattle.h1_chunks.proofs.lines.window_section.Goals as goal

pub loop-len-init : goal.loop-len-init
loop-len-init c = record {
  within = omega arith;
  few = omega arith;
  cut = cut_from-first (length c.args.window.now) [] (whole_lines c.args.window.now);
}

pub returns-then-is_empty_line-clause-cut : goal.returns-then-is_empty_line-clause-cut
returns-then-is_empty_line-clause-cut c =
    c.closed_cut.ensures.cut
    ∙ cut_from-end _ c.args.window.now _ _ _ c.in-Some.ensures.within.1 c.in-Some.ensures.lines (sym c.if-is_empty_line.ensures)
    ∙ c.loop-len.invariant.cut

pub returns-clause-cut : goal.returns-clause-cut
returns-clause-cut c =
    c.open_cut.ensures ∙ cut_from-none _ c.args.window.now _ _ c.in_default.ensures.lines ∙ c.loop-len.invariant.cut

pub loop-len-preserved : goal.loop-len-preserved
loop-len-preserved c = record {
  within = omega (arith, c.in-Some.ensures.within);
  few = omega (arith, c.in-Some.ensures.within);
  cut = cut_from-next _ c.args.window.now _ _ _ c.in-Some.ensures.within.1 c.in-Some.ensures.lines (sym c.if-is_empty_line.ensures)
      ∙ c.loop-len.invariant.cut;
}
