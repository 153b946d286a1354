-- Some bytes spell the worked example.
use Rattle.std.proofs.Common.{◌≡◌, Ok, refl, sym, subst, arith}
use Rattle.wasm_syntax.specs.Numbers.{unsigned_at, signed_at}
use Rattle.wasm_syntax.specs.Format.{chain_reads, repeated}
use Rattle.wasm_syntax.specs.Grammar.{function_type, limits, memory_type, octets, operands, instruction, expression, segment, local_groups, function_body, code_vector, section_of, section, sections_read, module_read}
use Rattle.wasm_syntax.specs.declared.module.Module.{Module}
use Rattle.wasm_syntax.specs.Examples.{bytes_of_example, example}
use Rattle.wasm_syntax.proofs.ModuleLaws.{read_is_spelled}
use Rattle.wasm_writer.specs.Written.{HasSpelling}

example_is_read : module_read bytes_of_example ≡ Ok example
unfolding unsigned_at signed_at chain_reads repeated function_type limits memory_type octets operands instruction expression segment local_groups function_body code_vector section_of section sections_read module_read
example_is_read = refl

pub example_has_spelling : (m : Module) → m ≡ example → HasSpelling m
example_has_spelling m e = record { bytes = bytes_of_example; are_bytes = search arith; spelled = subst (λ n. Rattle.wasm_syntax.specs.Grammar.Spells bytes_of_example n) (sym e) (read_is_spelled bytes_of_example example example_is_read) }
