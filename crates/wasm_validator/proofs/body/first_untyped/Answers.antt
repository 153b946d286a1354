use Rattle.std.proofs.Common.{◌≡◌, ℕ, suc, ◌+◌, length, take, List, [], ◌∷◌, refl, sym, ap, subst, ◌∙◌, arith}
use Rattle.wasm_validator.specs.Checking.{Layer, stepped, walked}
use Rattle.wasm_validator.specs.Scopes.{context_in}
use Rattle.wasm_validator.specs.Stepping.{Led}
use Rattle.wasm_validator.proofs.Bodies.{begun}
use Rattle.wasm_validator.proofs.Places.{walked-more, stops, stops-behind, ends, closes}
use Rattle.wasm_validator.proofs.body.first_untyped.Goals as goal

not_nil : (l : Layer) (ls : List Layer) → l ∷ ls ≡ [] → ⊥
not_nil l ls e = absurd (let n : length (l ∷ ls) ≡ 0 = ap length e in omega (arith, n))

pub loop-place-preserved : goal.loop-place-preserved
loop-place-preserved c =
    let i = c.index-body-place.result in
    let ctx = context_in c.args.names in
    let led = subst (λ s. Led s (stepped ctx c.loop-place.checker i) c.step.new.self) c.in-Goes.is c.in_ok-step.ensures in
    let more = walked-more ctx c.args.body.now c.loop-place.place c.loop-place.checker i c.loop-place-test.true (sym c.index-body-place.is) c.loop-place.invariant.walked in
    let next : c.loop-place.place + 1 ≡ suc c.loop-place.place = omega arith in
    record {
      within = omega (arith, c.loop-place-test.true);
      still_open = λ e. not_nil c.checker.inside.frame _ (c.checker.view_is ∙ e);
      walked = ap (λ (n : ℕ). walked ctx (begun ctx) (take n c.args.body.now)) next ∙ more ∙ led;
    }

pub returns-in-Fails-clause-place : goal.returns-in-Fails-clause-place
returns-in-Fails-clause-place c =
    let i = c.index-body-place.result in
    let ctx = context_in c.args.names in
    let led = subst (λ s. Led s (stepped ctx c.loop-place.checker i) c.step.new.self) c.in-Fails.is c.in_ok-step.ensures in
    let more = walked-more ctx c.args.body.now c.loop-place.place c.loop-place.checker i c.loop-place-test.true (sym c.index-body-place.is) c.loop-place.invariant.walked in
    stops ctx refl c.args.body.now c.loop-place.place c.loop-place.checker c.loop-place-test.true c.loop-place.invariant.walked (more ∙ led)

pub returns-in-Ends-clause-place : goal.returns-in-Ends-clause-place
returns-in-Ends-clause-place c =
    let i = c.index-body-place.result in
    let ctx = context_in c.args.names in
    let led = subst (λ s. Led s (stepped ctx c.loop-place.checker i) c.step.new.self) c.in-Ends.is c.in_ok-step.ensures in
    let more = walked-more ctx c.args.body.now c.loop-place.place c.loop-place.checker i c.loop-place-test.true (sym c.index-body-place.is) c.loop-place.invariant.walked in
    let next : c.loop-place.place + 1 ≡ suc c.loop-place.place = omega arith in
    stops-behind ctx refl c.args.body.now (c.loop-place.place + 1) c.if-place-body.true (ap (λ (n : ℕ). walked ctx (begun ctx) (take n c.args.body.now)) next ∙ more ∙ led)

pub returns-in-Ends-2-clause-typed : goal.returns-in-Ends-2-clause-typed
returns-in-Ends-2-clause-typed c =
    let i = c.index-body-place.result in
    let ctx = context_in c.args.names in
    let led = subst (λ s. Led s (stepped ctx c.loop-place.checker i) c.step.new.self) c.in-Ends-2.is c.in_ok-step.ensures in
    let more = walked-more ctx c.args.body.now c.loop-place.place c.loop-place.checker i c.loop-place-test.true (sym c.index-body-place.is) c.loop-place.invariant.walked in
    ends ctx refl c.args.body.now (suc c.loop-place.place) (omega (arith, c.if-place-body.false)) (more ∙ led)

pub unreachable-requires : goal.unreachable-requires
unreachable-requires c =
    let now = closes (context_in c.args.names) c.args.body.now c.requires.nested.0 c.loop-place.place c.loop-place.checker c.requires.nested.1 c.loop-place-test.false c.loop-place.invariant.walked in
    c.loop-place.invariant.still_open now
