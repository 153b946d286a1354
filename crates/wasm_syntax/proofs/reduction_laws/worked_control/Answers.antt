use Rattle.wasm_syntax.proofs.WorkedRuns.{if_else, if_not, table_0, table_1, table_last, leaves_all, this_type, many_frames}
use Rattle.wasm_syntax.proofs.reduction_laws.worked_control.Goals as goal

pub returns : goal.returns
returns c = record {
  if_else = if_else;
  if_not = if_not;
  table_first = table_0;
  table_second = table_1;
  table_past = table_last;
  returns = leaves_all;
  element = this_type;
  frames = many_frames;
}
