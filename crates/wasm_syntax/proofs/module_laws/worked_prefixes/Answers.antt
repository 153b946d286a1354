use Rattle.std.proofs.Common.{refl}
use Rattle.wasm_syntax.specs.Numbers.{unsigned_at, signed_at}
use Rattle.wasm_syntax.specs.Format.{repeated, chain_reads}
use Rattle.wasm_syntax.specs.Grammar.{function_type, limits, table_type, memory_type, global_type, name, octets, memory_argument, operands, instruction, expression, import, export, global, element, segment, local_group, local_groups, function_body, code_vector, section_of, section, sections_read, module_read}
use Rattle.wasm_syntax.proofs.module_laws.worked_prefixes.Goals as goal

pub returns : goal.returns
unfolding unsigned_at signed_at repeated chain_reads function_type limits table_type memory_type global_type name octets memory_argument operands instruction expression import export global element segment local_group local_groups function_body code_vector section_of section sections_read module_read
returns c = record {
  copy = refl;
  long_fill = refl;
  extension = refl;
  behind_extensions = refl;
  first_float = refl;
  last_float = refl;
  long_float = refl;
  behind_floats = refl;
  before_copy = refl;
  behind_fill = refl;
  too_large = refl;
  cut_off = refl;
  no_number = refl;
  first_reserved = refl;
  second_reserved = refl;
  fill_reserved = refl;
  past_its_body = refl;
  float_past_its_body = refl;
}
