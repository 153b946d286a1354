use Rattle.std.proofs.Common.{◌≤◌, ◌<◌, ◌+◌, ◌∙◌, ℕ, take, sym, ap, arith}
use Rattle.wasm_machine.specs.Kinds.{kinds}
use Rattle.wasm_machine.proofs.Stretches.{kinds-take, kinds-whole, kinds-same}
use Rattle.wasm_machine.proofs.kinds.Kinds.truncate.Goals as goal

pub returns-then-count-self : goal.returns-then-count-self
returns-then-count-self c =
    let inside = c.self.inside in
    let le : c.args.count ≤ inside.count = omega (arith, c.if-count-self.true) in
    ap (λ ss. kinds ss 0 c.args.count) (c.truncate.ensures.items ∙ ap (λ ss. take c.begun-keep.result ss) (sym c.as_slice.ensures.value))
    ∙ kinds-same (take c.begun-keep.result c.as_slice.result.now) c.as_slice.result.now 0 c.args.count (λ k lt. c.begun-keep.ensures k (omega (arith, lt)))
    ∙ ap (λ ss. kinds ss 0 c.args.count) c.as_slice.ensures.value
    ∙ sym (kinds-take inside.stretches.items 0 inside.count c.args.count le)
    ∙ ap (λ ts. take c.args.count ts) c.self.view_is

pub returns-else-count-self : goal.returns-else-count-self
returns-else-count-self c =
    let inside = c.self.inside in
    let le : inside.count ≤ c.args.count = omega (arith, c.if-count-self.false) in
    ap (λ ss. kinds ss 0 inside.count) (c.truncate.ensures.items ∙ ap (λ ss. take c.begun-keep.result ss) (sym c.as_slice.ensures.value))
    ∙ kinds-same (take c.begun-keep.result c.as_slice.result.now) c.as_slice.result.now 0 inside.count (λ k lt. c.begun-keep.ensures k (omega (arith, lt, le)))
    ∙ ap (λ ss. kinds ss 0 inside.count) c.as_slice.ensures.value
    ∙ sym (kinds-whole inside.stretches.items 0 inside.count c.args.count le)
    ∙ ap (λ ts. take c.args.count ts) c.self.view_is
