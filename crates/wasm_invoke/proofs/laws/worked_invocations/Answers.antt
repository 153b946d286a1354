use Rattle.wasm_invoke.proofs.WorkedWhole.{called, no_export, no_arguments}
use Rattle.wasm_invoke.proofs.laws.worked_invocations.Goals as goal

pub returns : goal.returns
returns c = record { called = called; no_export = no_export; no_arguments = no_arguments }
