use Rattle.std.proofs.Common.{refl}
use Rattle.wasm_syntax.specs.Numbers.{unsigned_at, signed_at, unsigned_bytes, signed_bytes}
use Rattle.wasm_syntax.proofs.laws.worked_numbers.Goals as goal

pub returns : goal.returns
unfolding unsigned_at signed_at unsigned_bytes signed_bytes
returns c = record {
  three_bytes = refl;
  not_shortest = refl;
  largest = refl;
  bit_32 = refl;
  six_bytes = refl;
  cut = refl;
  minus_two = refl;
  minus_two_long = refl;
  least = refl;
  sign_unlike = refl;
  written = refl;
  written_negative = refl;
  written_above_63 = refl;
}
