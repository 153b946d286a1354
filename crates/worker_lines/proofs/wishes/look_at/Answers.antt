use Rattle.std.proofs.Common.{◌≡◌, ◌<◌, ◌∙◌, length, refl, sym, ap, subst, arith, List, Some, ◌+◌}
use Rattle.std.specs.Prelude.{slice_get, slice_set}
use Rattle.std.proofs.lemmas.Option.{slice_get_read}
use Rattle.worker_model.specs.declared.types.Wish.{Wish}
use Rattle.worker_lines.proofs.Wished.{FitsFrom, fits_start, fits_next, fits_end, length_set}
use Rattle.worker_lines.proofs.wishes.look_at.Goals as goal

pub loop-at-init : goal.loop-at-init
loop-at-init c = (c.requires.length, fits_start c.args.touched c.start-at.result c.args.kept.now.each.items c.args.lines.now c.requires.fits c.start-at.ensures, c.requires.listed)

pub loop-at-preserved : goal.loop-at-preserved
loop-at-preserved c =
    let long = c.loop-at.invariant.0 in
    let low : c.loop-at.at < length c.args.lines.now = omega (arith, c.loop-at-test.true, c.end-at-end.ensures.below) in
    let line = c.index-lines-at.result in
    let here : slice_get c.args.lines.now c.loop-at.at ≡ Some line = slice_get_read c.args.lines.now (length c.args.lines.now) c.loop-at.at line refl low (cc) in
    let items = c.loop-at.kept.each.items in
    let there = subst (λ w. FitsFrom c.args.touched (c.loop-at.at + 1) (slice_set items c.loop-at.at w) c.args.lines.now) (sym c.wish_of.ensures)
    (fits_next c.args.touched c.loop-at.at items c.args.lines.now line c.loop-at.invariant.1 here (omega (arith, long, low))) in
    let is = c.in_ok-put.ensures.each in (
      ap (λ (ws : List Wish). length ws) is ∙ length_set items c.loop-at.at c.wish_of.result ∙ long,
      subst (λ (ws : List Wish). FitsFrom c.args.touched (c.loop-at.at + 1) ws c.args.lines.now) (sym is) there,
      c.in_ok-put.ensures.listed,
    )

pub returns-clause-each : goal.returns-clause-each
returns-clause-each c =
    fits_end c.args.touched c.loop-at.at c.loop-at.kept.each.items c.args.lines.now c.loop-at.invariant.0
    (λ k low covered. let bound = c.end-at-end.ensures.ends k low covered in omega (arith, bound, c.loop-at-test.false))
    c.loop-at.invariant.1
