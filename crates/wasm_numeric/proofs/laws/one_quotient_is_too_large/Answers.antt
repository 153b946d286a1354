use Rattle.wasm_numeric.proofs.Readings.{one_quotient}
use Rattle.wasm_numeric.proofs.laws.one_quotient_is_too_large.Goals as goal

pub returns : goal.returns
returns c = one_quotient
