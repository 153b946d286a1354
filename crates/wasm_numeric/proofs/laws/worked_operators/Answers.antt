use Rattle.std.proofs.Common.{refl}
use Rattle.wasm_numeric.proofs.laws.worked_operators.Goals as goal

pub returns : goal.returns
unfolding lib.Count.count_leading_zeros lib.Count.count_trailing_zeros lib.Count.ones
returns c = record {
  all_leading = refl;
  all_leading_long = refl;
  leading = refl;
  all_trailing = refl;
  trailing = refl;
  ones = refl;
  is_zero = refl;
  minus_one_below_zero = refl;
  greatest_not_below_zero = refl;
  least_below_greatest = refl;
  at_most_itself = refl;
  at_least_itself = refl;
  sum_wraps = refl;
  difference_wraps = refl;
  product_wraps = refl;
  both = refl;
  either = refl;
  one_alone = refl;
  low_half = refl;
  sign_extended = refl;
  minus_one_extended = refl;
  zero_extended = refl;
}
