use Rattle.std.proofs.Common.{◌≡◌, ℕ, List, ◌-◌, ◌<◌, ◌≤◌, length, get_or, Some, None, arith, subst, sym, ap, ◌∙◌}
use Rattle.std.specs.Prelude.{slice_get}
use Rattle.wasm_syntax.specs.Typing.{left_by}
use Rattle.wasm_validator.specs.Checking.{Layer, labels_in}
use Rattle.wasm_validator.proofs.Labels.{label-at, label-past}
use Rattle.wasm_validator.proofs.checker.Checker.label.Goals as goal

pub returns-in-Some-clause-some : goal.returns-in-Some-clause-some
returns-in-Some-clause-some c =
    let outer = c.self.inside.outer.items in
    let x = c.index.result.now in
    let within : c.args.l ≤ length outer = omega (arith, c.in-Some.ensures.0, c.len.ensures) in
    let at : c.in-Some.at ≡ length outer - c.args.l = omega (arith, c.in-Some.ensures.1, c.len.ensures) in
    let read : get_or outer (length outer - c.args.l) x ≡ x = ap (λ (i : ℕ). get_or outer i x) (sym at) ∙ sym c.index.ensures in
    let there = label-at c.self.inside.frame outer c.args.l x (omega (arith, c.if-l-eq0.false)) within read in
    subst (λ (v : List Layer). slice_get (labels_in v) c.args.l ≡ Some (left_by c.label-in-Some.result)) c.self.view_is (there ∙ ap Some (sym c.label-in-Some.ensures))

pub returns-in-None-clause-none : goal.returns-in-None-clause-none
returns-in-None-clause-none c =
    let outer = c.self.inside.outer.items in
    let past : length outer < c.args.l = omega (arith, c.in-None.ensures, c.len.ensures) in
    subst (λ (v : List Layer). slice_get (labels_in v) c.args.l ≡ None) c.self.view_is (label-past c.self.inside.frame outer c.args.l past)
