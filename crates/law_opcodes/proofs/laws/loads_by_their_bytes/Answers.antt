use Rattle.std.proofs.Common.{refl}
use Rattle.wasm_syntax.specs.Numbers.{unsigned_at, signed_at}
use Rattle.wasm_syntax.specs.Nested.{nests}
use Rattle.wasm_syntax.specs.Format.{repeated, chain_reads}
use Rattle.wasm_syntax.specs.Grammar.{memory_argument, operands, instruction, expression}
use Rattle.law_opcodes.proofs.laws.loads_by_their_bytes.Goals as goal

pub returns : goal.returns
unfolding nests unsigned_at signed_at repeated chain_reads memory_argument operands instruction expression
returns c = record {
  i32_load = (refl, refl, refl, refl);
  i64_load = (refl, refl, refl, refl);
  i32_load8_s = (refl, refl, refl, refl);
  i32_load8_u = (refl, refl, refl, refl);
  i32_load16_s = (refl, refl, refl, refl);
  i32_load16_u = (refl, refl, refl, refl);
  i64_load8_s = (refl, refl, refl, refl);
  i64_load8_u = (refl, refl, refl, refl);
  i64_load16_s = (refl, refl, refl, refl);
  i64_load16_u = (refl, refl, refl, refl);
  i64_load32_s = (refl, refl, refl, refl);
  i64_load32_u = (refl, refl, refl, refl);
}
