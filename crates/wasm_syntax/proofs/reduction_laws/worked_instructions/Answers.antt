use Rattle.wasm_syntax.proofs.WorkedCases.{select_upper, select_lower, shift_signed, shift_unsigned, quotient, if_taken, if_passed, drops_lower, tee, globals, load_signed, load_unsigned, load_past, load_spent, store, store_past, grow}
use Rattle.wasm_syntax.proofs.reduction_laws.worked_instructions.Goals as goal

pub returns : goal.returns
returns c = record {
  select_upper = select_upper;
  select_lower = select_lower;
  shift_signed = shift_signed;
  shift_unsigned = shift_unsigned;
  quotient = quotient;
  if_taken = if_taken;
  if_passed = if_passed;
  drops_lower = drops_lower;
  tee = tee;
  globals = globals;
  load_signed = load_signed;
  load_unsigned = load_unsigned;
  load_past = load_past;
  load_spent = load_spent;
  store = store;
  store_past = store_past;
  grow = grow;
}
