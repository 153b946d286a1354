use Rattle.std.proofs.Common.{◌∙◌, length, sym, ap}
use Rattle.wasm_machine.proofs.Marked.{length-marked}
use Rattle.wasm_machine.proofs.locals.Locals.len.Goals as goal

pub returns : goal.returns
returns c =
    let inside = c.self.inside in
    c.len.ensures ∙ sym (length-marked inside.kinds inside.given.items inside.values.items c.self.invariant.marks c.self.invariant.enough) ∙ ap (λ s. length s.members) c.self.view_is
