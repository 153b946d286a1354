use Rattle.wasm_syntax.proofs.BelowLaws.{calls_below_stay, answers_stay_above, answers_keep_depth}
use Rattle.wasm_syntax.proofs.reduction_laws.calls_below_stay.Goals as goal

pub returns-clause-runs : goal.returns-clause-runs
returns-clause-runs c = calls_below_stay

pub returns-clause-answers : goal.returns-clause-answers
returns-clause-answers c = answers_stay_above

pub returns-clause-depth : goal.returns-clause-depth
returns-clause-depth c = answers_keep_depth
