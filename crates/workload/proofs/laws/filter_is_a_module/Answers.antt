use Rattle.std.proofs.Common.{refl}
use Rattle.std.specs.Char.{encode_utf8}
use Rattle.std.specs.Str.{chars, is_utf8}
use Rattle.wasm_syntax.specs.Numbers.{unsigned_at, signed_at}
use Rattle.wasm_syntax.specs.Format.{repeated, chain_reads}
use Rattle.wasm_syntax.specs.Grammar.{function_type, limits, table_type, memory_type, global_type, name, octets, memory_argument, operands, instruction, expression, import, export, global, element, segment, local_group, local_groups, function_body, code_vector, section_of, section, sections_read, module_read}
use Rattle.workload.specs.Filter.{queue_filter}
use Rattle.workload.proofs.Validity.{filter_valid}
use Rattle.workload.proofs.laws.filter_is_a_module.Goals as goal

pub returns-clause-spelled : goal.returns-clause-spelled
unfolding is_utf8 chars encode_utf8 unsigned_at signed_at repeated chain_reads function_type limits table_type memory_type global_type name octets memory_argument operands instruction expression import export global element segment local_group local_groups function_body code_vector section_of section sections_read module_read
returns-clause-spelled c = (c.read_is_spelled.ensures _ queue_filter).0 refl

pub returns-clause-valid : goal.returns-clause-valid
returns-clause-valid c = filter_valid
