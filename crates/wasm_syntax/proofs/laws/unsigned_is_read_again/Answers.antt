use Rattle.std.proofs.Common.{arith, refl}
use Rattle.wasm_syntax.proofs.NumberLaws.{unsigned_again}
use Rattle.wasm_syntax.proofs.laws.unsigned_is_read_again.Goals as goal

pub returns : goal.returns
returns c = λ text rest v s. unsigned_again 4 4 32 text v rest (omega arith) refl s
