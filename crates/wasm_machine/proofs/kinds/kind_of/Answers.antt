use Rattle.wasm_machine.proofs.Stretches.{alike-kind}
use Rattle.wasm_machine.proofs.kinds.kind_of.Goals as goal

pub returns-in-Some : goal.returns-in-Some
returns-in-Some c = alike-kind c.args.types.now c.in-Some.of c.in-Some.ensures
