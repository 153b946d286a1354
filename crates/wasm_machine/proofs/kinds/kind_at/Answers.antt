use Rattle.std.proofs.Common.{◌≡◌, ◌≤◌, ◌<◌, ◌+◌, ◌-◌, ◌∙◌, ℕ, length, take, get_or, ap, sym, subst, arith}
use Rattle.wasm_syntax.specs.declared.types.ValueType.TheVariants.{I32}
use Rattle.wasm_machine.specs.declared.kinds.Stretch.{Stretch}
use Rattle.wasm_machine.specs.Kinds.{kind_by, kind_in}
use Rattle.wasm_machine.proofs.Stretches.{kind-without, kind-within, one-there}
use Rattle.wasm_machine.proofs.kinds.kind_at.Goals as goal

pub loop-at-preserved : goal.loop-at-preserved
loop-at-preserved c =
    let h = c.loop-at.invariant in
    let ss = c.args.stretches.now in
    let n = c.loop-at.at - 1 in
    let d = c.index-stretches-at.result in
    let within : n < length ss = omega (arith, h.low, c.loop-at-test.true) in
    let next : n + 1 ≡ c.loop-at.at = omega (arith, c.loop-at-test.true) in
    let start : c.args.k < (get_or ss n d).start = omega (arith, c.if-stretches-at.false) in
    record {
      low = omega (arith, h.low);
      same = kind-without ss n d c.args.k within start ∙ ap (λ (m : ℕ). kind_by I32 (take m ss) c.args.k) next ∙ h.same;
    }

pub returns-then-stretches-at : goal.returns-then-stretches-at
returns-then-stretches-at c =
    let h = c.loop-at.invariant in
    let ss = c.args.stretches.now in
    let n = c.loop-at.at - 1 in
    let d = c.index-stretches-at.result in
    let within : n < length ss = omega (arith, h.low, c.loop-at-test.true) in
    let next : n + 1 ≡ c.loop-at.at = omega (arith, c.loop-at-test.true) in
    let start : (get_or ss n d).start ≤ c.args.k = omega (arith, c.if-stretches-at.true) in
    let kind = one-there ss n c.index-stretches-at-then-stretches-at.result d within in
    let place = one-there ss n c.index-stretches-at-then-stretches-at-2.result d within in
    c.kind_here.ensures
    ∙ (λ i. kind_in (kind i).kind (c.args.k - (place i).start))
    ∙ sym (kind-within ss n d c.args.k within start)
    ∙ ap (λ (m : ℕ). kind_by I32 (take m ss) c.args.k) next
    ∙ h.same
