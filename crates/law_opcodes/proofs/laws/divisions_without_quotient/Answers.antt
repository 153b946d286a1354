use Rattle.std.proofs.Common.{refl}
use Rattle.wasm_syntax.specs.Numbers.{unsigned_at, signed_at}
use Rattle.wasm_syntax.specs.Nested.{nests}
use Rattle.wasm_syntax.specs.Format.{repeated, chain_reads}
use Rattle.wasm_syntax.specs.Grammar.{memory_argument, operands, instruction, expression}
use Rattle.law_opcodes.proofs.laws.divisions_without_quotient.Goals as goal

pub returns : goal.returns
unfolding nests unsigned_at signed_at repeated chain_reads memory_argument operands instruction expression
returns c = record {
  i32_div_s_by_zero = refl;
  i32_div_u_by_zero = refl;
  i32_rem_s_by_zero = refl;
  i32_rem_u_by_zero = refl;
  i32_div_s_of_least = refl;
  i32_div_u_of_least = refl;
  i32_rem_s_of_least = refl;
  i32_rem_u_of_least = refl;
  i64_div_s_by_zero = refl;
  i64_div_u_by_zero = refl;
  i64_rem_s_by_zero = refl;
  i64_rem_u_by_zero = refl;
  i64_div_s_of_least = refl;
  i64_div_u_of_least = refl;
  i64_rem_s_of_least = refl;
  i64_rem_u_of_least = refl;
}
