use Rattle.wasm_syntax.proofs.ModuleLaws.{one_module}
use Rattle.wasm_syntax.proofs.module_laws.one_module.Goals as goal

pub returns : goal.returns
returns c = one_module
