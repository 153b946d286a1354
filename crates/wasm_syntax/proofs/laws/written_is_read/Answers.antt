use Rattle.std.proofs.Common.{arith, refl}
use Rattle.wasm_syntax.specs.Numbers.{unsigned_bytes, signed_bytes}
use Rattle.wasm_syntax.proofs.NumberLaws.{unsigned_again, signed_again}
use Rattle.wasm_syntax.proofs.Shortest.{unsigned_shortest, word_shortest, long_shortest}
use Rattle.wasm_syntax.proofs.laws.written_is_read.Goals as goal

pub returns : goal.returns
returns c = record {
  unsigned = λ v rest lt. unsigned_again 4 4 32 (unsigned_bytes 4 v) v rest (omega arith) refl (unsigned_shortest v lt).spelled;
  word = λ v rest fits. signed_again 4 4 32 (signed_bytes 4 v) v rest (omega arith) refl (word_shortest v fits).spelled;
  long = λ v rest fits. signed_again 1 9 64 (signed_bytes 9 v) v rest (omega arith) refl (long_shortest v fits).spelled;
}
