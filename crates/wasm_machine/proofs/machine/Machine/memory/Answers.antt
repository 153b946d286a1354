use Rattle.std.proofs.Common.{◌∙◌, ap, sym}
use Rattle.wasm_syntax.specs.Stores.{Stores}
use Rattle.wasm_flat.specs.Live.{flat}
use Rattle.wasm_machine.specs.Machines.{View, config_at}
use Rattle.wasm_flat.proofs.Sees.{seen_store}
use Rattle.wasm_machine.proofs.machine.Machine.memory.Goals as goal

pub returns-clause-bytes : goal.returns-clause-bytes
returns-clause-bytes c =
    let inside = c.self.inside in
    c.memory.ensures.bytes ∙ ap (λ (s : Stores). s.memory) (sym (seen_store (flat inside.program inside.state))) ∙ ap (λ (v : View). (config_at v).store.memory) c.self.view_is
