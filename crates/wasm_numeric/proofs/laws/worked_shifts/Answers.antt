use Rattle.std.proofs.Common.{refl}
use Rattle.wasm_numeric.proofs.laws.worked_shifts.Goals as goal

pub returns : goal.returns
returns c = record {
  modulo_the_size = refl;
  modulo_the_long_size = refl;
  not_modulo = refl;
  whole_size = refl;
  high_bits_are_lost = refl;
  zeros_come_in = refl;
  sign_comes_in = refl;
  round_to_the_left = refl;
  round_to_the_right = refl;
  round_by_none = refl;
  round_long = refl;
}
