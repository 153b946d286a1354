use Rattle.std.proofs.Common.{refl}
use Rattle.wasm_syntax.specs.Numbers.{unsigned_at, signed_at}
use Rattle.wasm_syntax.specs.Nested.{nests}
use Rattle.wasm_syntax.specs.Format.{repeated, chain_reads}
use Rattle.wasm_syntax.specs.Grammar.{memory_argument, operands, instruction, expression}
use Rattle.law_opcodes.proofs.laws.stores_by_their_bytes.Goals as goal

pub returns : goal.returns
unfolding nests unsigned_at signed_at repeated chain_reads memory_argument operands instruction expression
returns c = record {
  i32_store = (refl, refl, refl, refl);
  i64_store = (refl, refl, refl, refl);
  i32_store8 = (refl, refl, refl, refl);
  i32_store16 = (refl, refl, refl, refl);
  i64_store8 = (refl, refl, refl, refl);
  i64_store16 = (refl, refl, refl, refl);
  i64_store32 = (refl, refl, refl, refl);
}
