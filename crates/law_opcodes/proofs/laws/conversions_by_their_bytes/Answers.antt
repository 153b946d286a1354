use Rattle.std.proofs.Common.{refl}
use Rattle.wasm_syntax.specs.Numbers.{unsigned_at, signed_at}
use Rattle.wasm_syntax.specs.Nested.{nests}
use Rattle.wasm_syntax.specs.Format.{repeated, chain_reads}
use Rattle.wasm_syntax.specs.Grammar.{memory_argument, operands, instruction, expression}
use Rattle.law_opcodes.proofs.laws.conversions_by_their_bytes.Goals as goal

pub returns : goal.returns
unfolding nests unsigned_at signed_at repeated chain_reads memory_argument operands instruction expression
returns c = record {
  i32_wrap_i64 = refl;
  i64_extend_i32_s = refl;
  i64_extend_i32_u = refl;
}
