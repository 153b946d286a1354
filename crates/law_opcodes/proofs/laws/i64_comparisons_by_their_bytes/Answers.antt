use Rattle.std.proofs.Common.{refl}
use Rattle.wasm_syntax.specs.Numbers.{unsigned_at, signed_at}
use Rattle.wasm_syntax.specs.Nested.{nests}
use Rattle.wasm_syntax.specs.Format.{repeated, chain_reads}
use Rattle.wasm_syntax.specs.Grammar.{memory_argument, operands, instruction, expression}
use Rattle.law_opcodes.proofs.laws.i64_comparisons_by_their_bytes.Goals as goal

pub returns : goal.returns
unfolding nests unsigned_at signed_at repeated chain_reads memory_argument operands instruction expression
returns c = record {
  eqz_of_zero = refl;
  eqz_of_another = refl;
  eq = (refl, refl, refl, refl);
  ne = (refl, refl, refl, refl);
  lt_s = (refl, refl, refl, refl);
  lt_u = (refl, refl, refl, refl);
  gt_s = (refl, refl, refl, refl);
  gt_u = (refl, refl, refl, refl);
  le_s = (refl, refl, refl, refl);
  le_u = (refl, refl, refl, refl);
  ge_s = (refl, refl, refl, refl);
  ge_u = (refl, refl, refl, refl);
}
