use Rattle.std.proofs.Common.{refl}
use Rattle.wasm_syntax.specs.Numbers.{unsigned_at, signed_at}
use Rattle.wasm_syntax.specs.Format.{repeated, chain_reads}
use Rattle.wasm_syntax.specs.Grammar.{function_type, limits, table_type, memory_type, global_type, name, octets, memory_argument, operands, instruction, expression, import, export, global, element, segment, local_group, local_groups, function_body, code_vector, section_of, section, sections_read, module_read}
use Rattle.wasm_syntax.proofs.module_laws.worked_modules.Goals as goal

pub returns : goal.returns
unfolding unsigned_at signed_at repeated chain_reads function_type limits table_type memory_type global_type name octets memory_argument operands instruction expression import export global element segment local_group local_groups function_body code_vector section_of section sections_read module_read
returns c = record {
  nothing = refl;
  header_alone = refl;
  wrong_magic = refl;
  size_cut_off = refl;
  whole = refl;
  long_count = refl;
  float = refl;
  types_alone = refl;
  no_code = refl;
  no_function = refl;
  twice = refl;
  out_of_order = refl;
  body_past_its_section = refl;
  bytes_behind_end = refl;
  else_without_if = refl;
  no_end = refl;
  end_behind_body = refl;
  size_past_the_input = refl;
  counts_differ = refl;
  padded = refl;
}
