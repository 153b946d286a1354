use Rattle.std.proofs.Common.{◌≡◌, ◌<◌, ◌+◌, ◌∙◌, ℕ, suc, length, drop, sym, ap, refl, arith}
use Rattle.std.specs.List.{list_any}
use Rattle.std.proofs.lemmas.List.{take_rest, length-drop}
use Rattle.h1_model.specs.Fields.{members}
use Rattle.h1_text.proofs.Skips.{first_lost, run_lost, left-comma, left-no_comma}
use Rattle.h1_text.proofs.wanted.Wanted.behind_run.Goals as goal

pub loop-at-init : goal.loop-at-init
loop-at-init c = record {
  within = omega arith;
  left = λ p lost. sym (first_lost c.args.self.now p c.requires.blanks lost c.args.list.now c.requires.other);
}

pub loop-at-preserved : goal.loop-at-preserved
loop-at-preserved c =
    let more = c.loop-at-test.ensures refl in
    record {
      within = omega (arith, more.0);
      left = λ p lost.
          sym (run_lost c.args.self.now p c.requires.blanks lost 8 c.args.list.now c.loop-at.at more.0 more.1)
          ∙ c.loop-at.invariant.left p lost;
    }

pub returns-then-end-list-clause-members : goal.returns-then-end-list-clause-members
returns-then-end-list-clause-members c =
    let list = c.args.list.now in
    let at = c.loop-at.at in
    let j = c.comma_at.result in
    let comma = rw (take_rest {X = ℕ}) at c.comma_at.ensures.comma in
    let before = rw (take_rest {X = ℕ}) at c.comma_at.ensures.before in
    let low : j < length (drop at list) = omega (arith, c.if-end-list.true, length-drop at list) in
    let same : at + suc j ≡ at + j + 1 = omega arith in
    λ p lost.
    rw (take_rest {X = ℕ})
    (sym (ap (λ n. list_any p (members (drop n list))) same)
    ∙ sym (left-comma p list at j low (comma low) before)
    ∙ c.loop-at.invariant.left p lost)

pub returns-else-end-list-clause-members : goal.returns-else-end-list-clause-members
returns-else-end-list-clause-members c =
    let before = rw (take_rest {X = ℕ}) at c.comma_at.ensures.before in
    λ p lost.
    sym (left-no_comma p (drop c.loop-at.at c.args.list.now) (λ k lt. before k (omega (arith, c.if-end-list.false, lt, length-drop c.loop-at.at c.args.list.now))))
    ∙ c.loop-at.invariant.left p lost
