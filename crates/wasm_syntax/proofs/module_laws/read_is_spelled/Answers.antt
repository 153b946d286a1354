use Rattle.wasm_syntax.proofs.ModuleLaws.{read_is_spelled, spelled_is_read}
use Rattle.wasm_syntax.proofs.module_laws.read_is_spelled.Goals as goal

pub returns : goal.returns
returns c = λ b m. (read_is_spelled b m, spelled_is_read b m)
