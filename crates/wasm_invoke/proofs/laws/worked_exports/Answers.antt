use Rattle.std.proofs.Common.{refl}
use Rattle.wasm_invoke.proofs.laws.worked_exports.Goals as goal

pub returns : goal.returns
returns c = record { found = refl; longer = refl; of_another_kind = refl; missing = refl; passed_over = refl }
