use Rattle.wasm_syntax.proofs.WorkedRuns.{unreachable, divide, overflow, outside, past_table, never_set, other_type, stack, exits, spent_first}
use Rattle.wasm_syntax.proofs.reduction_laws.worked_traps.Goals as goal

pub returns : goal.returns
returns c = record {
  unreachable = unreachable;
  divide = divide;
  overflow = overflow;
  outside = outside;
  past_table = past_table;
  never_set = never_set;
  other_type = other_type;
  stack = stack;
  exits = exits;
  spent_first = spent_first;
}
