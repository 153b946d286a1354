use Rattle.std.proofs.Common.{◌≡◌, ◌<◌, List, length, refl, sym, subst, arith, Some}
use Rattle.std.specs.Prelude.{slice_get}
use Rattle.std.proofs.lemmas.Option.{slice_get_read}
use Rattle.worker_model.specs.Rooms.{has_move}
use Rattle.worker_lines.specs.Stirring.{StirsWithin}
use Rattle.worker_model.specs.declared.types.Line.{Line}
use Rattle.worker_lines.proofs.Firsts.{first_is, none_is, fails_more}
use Rattle.worker_lines.proofs.Stirs.{fails_before, fails_behind, moves_stirs}
use Rattle.worker_lines.proofs.lines.Lines.moving.Goals as goal

pub loop-at-init : goal.loop-at-init
loop-at-init c =
    let within = subst (λ (ls : List Line). StirsWithin c.self.inside.due ls) c.self.view_is c.self.invariant.stirs in
    fails_before has_move moves_stirs c.self.inside.due c.args.self.now within c.start-at.result c.start-at.ensures

pub returns-then-is_moving : goal.returns-then-is_moving
returns-then-is_moving c =
    let low : c.loop-at.at < length c.self.inside.list.items = omega (arith, c.loop-at-test.true, c.end-at-end.ensures.below, c.len.ensures) in
    let line = c.index.result.now in
    let here : slice_get c.self.inside.list.items c.loop-at.at ≡ Some line = slice_get_read c.self.inside.list.items (length c.self.inside.list.items) c.loop-at.at line refl low (cc) in
    let there = subst (λ (ls : List Line). slice_get ls c.loop-at.at ≡ Some line) c.self.view_is here in
    sym (first_is has_move c.args.self.now c.loop-at.at line c.loop-at.invariant there (cc))

pub loop-at-preserved : goal.loop-at-preserved
loop-at-preserved c =
    let low : c.loop-at.at < length c.self.inside.list.items = omega (arith, c.loop-at-test.true, c.end-at-end.ensures.below, c.len.ensures) in
    let line = c.index.result.now in
    let here : slice_get c.self.inside.list.items c.loop-at.at ≡ Some line = slice_get_read c.self.inside.list.items (length c.self.inside.list.items) c.loop-at.at line refl low (cc) in
    let there = subst (λ (ls : List Line). slice_get ls c.loop-at.at ≡ Some line) c.self.view_is here in
    fails_more has_move c.args.self.now c.loop-at.at line c.loop-at.invariant there (cc)

pub returns : goal.returns
returns c =
    let within = subst (λ (ls : List Line). StirsWithin c.self.inside.due ls) c.self.view_is c.self.invariant.stirs in
    let all = fails_behind has_move moves_stirs c.self.inside.due c.args.self.now within c.loop-at.at (λ k low covered. let bound = c.end-at-end.ensures.ends k (let less : k < length c.self.inside.list.items = subst (λ (ls : List Line). k < length ls) (sym c.self.view_is) low in omega (arith, less, c.len.ensures)) covered in omega (arith, bound, c.loop-at-test.false)) c.loop-at.invariant in
    sym (none_is has_move c.args.self.now all)
