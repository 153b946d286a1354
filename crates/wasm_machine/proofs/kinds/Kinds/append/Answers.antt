use Rattle.std.proofs.Common.{◌∙◌, ◌+◌, ◌++◌, ◌∷◌, [], length, ap, arith}
use Rattle.wasm_machine.specs.declared.kinds.Stretch.{Stretch}
use Rattle.wasm_machine.specs.Kinds.{kinds}
use Rattle.wasm_machine.proofs.Stretches.{length-kinds, kinds-append}
use Rattle.wasm_machine.proofs.kinds.Kinds.append.Goals as goal

pub overflow_add-self : goal.overflow_add-self
overflow_add-self c = omega (arith, c.requires.few, c.len-in-Some.ensures.few, ap length c.self.view_is, length-kinds c.self.inside.stretches.items 0 c.self.inside.count)

pub returns-in-Some-clause-all : goal.returns-in-Some-clause-all
returns-in-Some-clause-all c is =
    let inside = c.self.inside in
    let s : Stretch = record { start = inside.count; kind = c.in-Some.kind } in
    ap (λ ss. kinds ss 0 (inside.count + c.len-in-Some.result)) c.push_reserved.ensures.items
    ∙ ap (λ n. kinds (inside.stretches.items ++ s ∷ []) 0 (inside.count + n)) c.len-in-Some.ensures.count
    ∙ kinds-append inside.stretches.items s c.args.types.now c.in-Some.ensures
    ∙ ap (λ ts. ts ++ c.args.types.now) c.self.view_is
