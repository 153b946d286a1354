use Rattle.wasm_syntax.proofs.WorkedBodies.{behind_unreachable, loop_takes_nothing, block_takes_its_result, block_wants_its_result, if_and_else, if_alone, no_else_no_result, block_leaves_below, aligned, aligned_too_far, no_memory, copies, no_memory_to_copy, length_of_64_bits}
use Rattle.wasm_syntax.proofs.typing_laws.worked_bodies.Goals as goal

pub returns : goal.returns
returns c = record {
  behind_unreachable = behind_unreachable;
  loop_takes_nothing = loop_takes_nothing;
  block_takes_its_result = block_takes_its_result;
  block_wants_its_result = block_wants_its_result;
  if_and_else = if_and_else;
  if_alone = if_alone;
  no_else_no_result = no_else_no_result;
  block_leaves_below = block_leaves_below;
  aligned = aligned;
  aligned_too_far = aligned_too_far;
  no_memory = no_memory;
  copies = copies;
  no_memory_to_copy = no_memory_to_copy;
  length_of_64_bits = length_of_64_bits;
}
