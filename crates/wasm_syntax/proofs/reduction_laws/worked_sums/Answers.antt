use Rattle.wasm_syntax.proofs.WorkedRuns.{sum_of_0, sum_of_1, sum_of_3, sum_spends, sum_leaves}
use Rattle.wasm_syntax.proofs.reduction_laws.worked_sums.Goals as goal

pub returns : goal.returns
returns c = record {
  sum_of_0 = sum_of_0;
  sum_of_1 = sum_of_1;
  sum_of_3 = sum_of_3;
  one_short = sum_spends;
  some_left = sum_leaves;
}
