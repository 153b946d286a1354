use Rattle.std.proofs.Common.{◌≡◌, ◌≤◌, ◌<◌, ◌+◌, ◌-◌, ◌∙◌, ℕ, length, take, get_or, ap, subst, arith}
use Rattle.wasm_syntax.specs.declared.types.ValueType.TheVariants.{I32}
use Rattle.wasm_machine.specs.declared.kinds.Stretch.{Stretch}
use Rattle.wasm_machine.specs.Kinds.{kind_by}
use Rattle.wasm_machine.proofs.Stretches.{kind-without}
use Rattle.wasm_machine.proofs.kinds.begun.Goals as goal

pub loop-keep-preserved : goal.loop-keep-preserved
loop-keep-preserved c =
    let h = c.loop-keep.invariant in
    let ss = c.args.stretches.now in
    let n = c.loop-keep.keep - 1 in
    let d = c.index-stretches-keep.result in
    let within : n < length ss = omega (arith, h.low, c.loop-keep-test.true) in
    let next : n + 1 ≡ c.loop-keep.keep = omega (arith, c.loop-keep-test.true) in
    let start : c.args.count ≤ (get_or ss n d).start = omega (arith, c.if-stretches-keep.false) in
    record {
      low = omega (arith, h.low);
      same = λ k lt. kind-without ss n d k within (omega (arith, lt, start)) ∙ ap (λ (m : ℕ). kind_by I32 (take m ss) k) next ∙ h.same k lt;
    }
