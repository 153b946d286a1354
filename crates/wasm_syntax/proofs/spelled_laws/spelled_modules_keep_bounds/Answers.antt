use Rattle.wasm_syntax.proofs.Spelled.{spelled-keeps}
use Rattle.wasm_syntax.proofs.spelled_laws.spelled_modules_keep_bounds.Goals as goal

pub returns : goal.returns
returns c = spelled-keeps
