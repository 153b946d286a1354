use Rattle.std.proofs.Common.{refl}
use Rattle.wasm_syntax.specs.Numbers.{unsigned_at, signed_at}
use Rattle.wasm_syntax.specs.Nested.{nests}
use Rattle.wasm_syntax.specs.Format.{repeated, chain_reads}
use Rattle.wasm_syntax.specs.Grammar.{memory_argument, operands, instruction, expression}
use Rattle.law_opcodes.proofs.laws.shifts_by_the_width.Goals as goal

pub returns : goal.returns
unfolding nests unsigned_at signed_at repeated chain_reads memory_argument operands instruction expression
returns c = record {
  i32_shl = (refl, refl, refl);
  i32_shr_s = (refl, refl, refl);
  i32_shr_u = (refl, refl, refl);
  i32_rotl = (refl, refl, refl);
  i32_rotr = (refl, refl, refl);
  i64_shl = (refl, refl, refl);
  i64_shr_s = (refl, refl, refl);
  i64_shr_u = (refl, refl, refl);
  i64_rotl = (refl, refl, refl);
  i64_rotr = (refl, refl, refl);
}
