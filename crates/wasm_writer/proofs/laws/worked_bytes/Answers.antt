use Rattle.std.proofs.Common.{refl}
use Rattle.wasm_syntax.specs.Numbers.{unsigned_bytes, signed_bytes}
use Rattle.wasm_writer.specs.Written.{function_type_bytes, memory_type_bytes, instruction_bytes, expression_bytes, groups_from, body_bytes, segment_bytes, module_bytes}
use Rattle.wasm_writer.proofs.laws.worked_bytes.Goals as goal

pub returns : goal.returns
unfolding unsigned_bytes signed_bytes function_type_bytes memory_type_bytes instruction_bytes expression_bytes groups_from body_bytes segment_bytes module_bytes
returns c = record { nothing = refl; whole = refl; no_groups = refl; joined = refl }
