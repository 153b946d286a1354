use Rattle.wasm_numeric.specs.Applied.{number_of, parts_of}
use Rattle.wasm_numeric.proofs.Traps.{divide_is_exact, overflow_is_exact}
use Rattle.wasm_numeric.proofs.laws.traps_are_exact.Goals as goal

pub returns : goal.returns
returns c = record {
  divide = λ op a b. divide_is_exact (parts_of op).0 (parts_of op).1 (number_of a) (number_of b);
  overflow = λ op a b. overflow_is_exact (parts_of op).0 (parts_of op).1 (number_of a) (number_of b);
}
