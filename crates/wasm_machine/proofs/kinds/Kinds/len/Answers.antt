use Rattle.std.proofs.Common.{◌∙◌, length, sym, ap}
use Rattle.wasm_machine.proofs.Stretches.{length-kinds}
use Rattle.wasm_machine.proofs.kinds.Kinds.len.Goals as goal

pub returns : goal.returns
returns c = sym (length-kinds c.self.inside.stretches.items 0 c.self.inside.count) ∙ ap length c.self.view_is
