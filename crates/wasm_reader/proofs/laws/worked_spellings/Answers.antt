use Rattle.std.proofs.Common.{refl}
use Rattle.wasm_syntax.specs.Numbers.{unsigned_at, signed_at}
use Rattle.wasm_syntax.specs.Nested.{nests}
use Rattle.wasm_syntax.specs.Format.{repeated, chain_reads}
use Rattle.wasm_syntax.specs.Grammar.{memory_argument, operands, instruction, expression}
use Rattle.wasm_reader.proofs.laws.worked_spellings.Goals as goal

pub returns : goal.returns
unfolding nests unsigned_at signed_at repeated chain_reads memory_argument operands instruction expression
returns c = record {
  i32_extend8_s = refl;
  i32_extend16_s = refl;
  i64_extend8_s = refl;
  i64_extend16_s = refl;
  i64_extend32_s = refl;
  memory_copy = refl;
  memory_fill = refl;
  long_memory_copy = refl;
}
