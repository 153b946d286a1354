use Rattle.std.proofs.Common.{arith, refl}
use Rattle.wasm_syntax.proofs.NumberLaws.{signed_again}
use Rattle.wasm_syntax.proofs.laws.signed_is_read_again.Goals as goal

pub returns : goal.returns
returns c = record {
  word = λ text rest v s. signed_again 4 4 32 text v rest (omega arith) refl s;
  long = λ text rest v s. signed_again 1 9 64 text v rest (omega arith) refl s;
}
