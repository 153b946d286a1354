use Rattle.std.proofs.Common.{refl}
use Rattle.wasm_syntax.specs.Numbers.{unsigned_at, signed_at}
use Rattle.wasm_syntax.specs.Nested.{nests}
use Rattle.wasm_syntax.specs.Format.{repeated, chain_reads}
use Rattle.wasm_syntax.specs.Grammar.{memory_argument, operands, instruction, expression}
use lib.Count.{count_leading_zeros, count_trailing_zeros, ones}
use Rattle.law_opcodes.proofs.laws.i64_operations_by_their_bytes.Goals as goal

pub returns : goal.returns
unfolding nests unsigned_at signed_at repeated chain_reads memory_argument operands instruction expression count_leading_zeros count_trailing_zeros ones
returns c = record {
  clz = refl;
  ctz = refl;
  popcnt = refl;
  add = refl;
  sub = refl;
  mul = refl;
  div_s = refl;
  div_u = refl;
  rem_s = refl;
  rem_u = refl;
  bits_and = refl;
  bits_or = refl;
  bits_xor = refl;
  shl = refl;
  shr_s = refl;
  shr_u = refl;
  rotl = refl;
  rotr = refl;
}
