use Rattle.std.proofs.Common.{IsTrue, ◌↔◌, subst}
use Rattle.wasm_machine.specs.Machines.{View, program_at, Takes}
use Rattle.wasm_machine.proofs.Asks.{takes_iff}
use Rattle.wasm_machine.proofs.machine.Machine.takes.Goals as goal

pub returns : goal.returns
returns c =
    let inside = c.self.inside in
    subst (λ (v : View). IsTrue c.takes.result ↔ Takes (program_at v) c.args.func c.args.args.now) c.self.view_is
    (takes_iff inside.program inside.state c.args.func c.args.args.now c.takes.result c.takes.ensures)
