use Rattle.std.proofs.Common.{◌∙◌, ◌+◌, ◌++◌, ◌∷◌, [], length, ap, arith}
use Rattle.wasm_syntax.specs.declared.types.ValueType.TheVariants.{I32}
use Rattle.wasm_machine.specs.Kinds.{kind_by}
use Rattle.wasm_machine.proofs.Stretches.{length-kinds, kinds-one}
use Rattle.wasm_machine.proofs.kinds.Kinds.push.Goals as goal

pub overflow_add-self : goal.overflow_add-self
overflow_add-self c = omega (arith, c.requires, ap length c.self.view_is, length-kinds c.self.inside.stretches.items 0 c.self.inside.count)

pub returns : goal.returns
returns c =
    let inside = c.self.inside in
    let t = kind_by I32 inside.stretches.items (0 + inside.count) in
    (t, kinds-one inside.stretches.items inside.count ∙ ap (λ ts. ts ++ t ∷ []) c.self.view_is)
