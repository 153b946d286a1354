use Rattle.wasm_syntax.proofs.WorkedValidity.{example_valid, full_valid, second_memory, second_import, beside_import, left_on_the_stack}
use Rattle.wasm_syntax.proofs.typing_laws.worked_validity.Goals as goal

pub returns : goal.returns
returns c = record {
  valid = example_valid;
  each_part = full_valid;
  second_memory = second_memory;
  second_import = second_import;
  beside_import = beside_import;
  left_on_the_stack = left_on_the_stack;
}
