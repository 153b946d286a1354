use Rattle.std.proofs.Common.{◌∙◌, ap, take}
use Rattle.wasm_machine.specs.Held.{held}
use Rattle.wasm_machine.specs.Marked.{marked}
use Rattle.wasm_machine.proofs.Marked.{marked-take}
use Rattle.wasm_machine.proofs.locals.Locals.truncate.Goals as goal

pub returns : goal.returns
returns c =
    let inside = c.self.inside in
    (λ i. held (marked (c.truncate.ensures i) (c.truncate-2.ensures.items i) inside.values.items) inside.room)
    ∙ ap (λ xs. held xs inside.room) (marked-take c.args.count inside.kinds inside.given.items inside.values.items)
    ∙ ap (λ s. held (take c.args.count s.members) s.room) c.self.view_is
