use Rattle.std.proofs.Common.{refl}
use Rattle.wasm_numeric.proofs.laws.worked_quotients.Goals as goal

pub returns : goal.returns
returns c = record {
  least_by_minus_one = refl;
  least_by_minus_one_long = refl;
  least_leaves_nothing = refl;
  least_leaves_nothing_long = refl;
  zero_signed = refl;
  zero_unsigned = refl;
  zero_remainder = refl;
  zero_unsigned_remainder = refl;
  toward_zero = refl;
  seven_by_minus_two = refl;
  unsigned_quotient = refl;
  sign_of_the_dividend = refl;
  not_of_the_divisor = refl;
  unsigned_remainder = refl;
}
