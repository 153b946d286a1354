use Rattle.std.proofs.Common.{◌≡◌, ◌<◌, ◌+◌, ◌∙◌, Some, length, sym, ap, arith}
use Rattle.std.specs.Prelude.{slice_get}
use Rattle.wasm_syntax.specs.declared.types.ValueType.TheVariants.{I32}
use Rattle.wasm_machine.specs.Kinds.{kind_by}
use Rattle.wasm_machine.proofs.Stretches.{length-kinds, kinds-at}
use Rattle.wasm_machine.proofs.kinds.Kinds.get.Goals as goal

pub returns : goal.returns
returns c =
    let inside = c.self.inside in
    let within : c.args.k < inside.count = omega (arith, c.requires, ap length c.self.view_is, length-kinds inside.stretches.items 0 inside.count) in
    let z : 0 + c.args.k ≡ c.args.k = omega arith in
    ap (λ ts. slice_get ts c.args.k) (sym c.self.view_is)
    ∙ kinds-at inside.stretches.items 0 inside.count c.args.k within
    ∙ ap (λ k. Some (kind_by I32 inside.stretches.items k)) z
    ∙ ap (λ ss. Some (kind_by I32 ss c.args.k)) (sym c.as_slice.ensures.value)
    ∙ ap (λ t. Some t) (sym c.kind_at.ensures)
