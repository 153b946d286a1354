use Rattle.wasm_invoke.proofs.Worked.{sums_up, one_short, endless}
use Rattle.wasm_invoke.proofs.laws.worked_calls.Goals as goal

pub returns : goal.returns
returns c = record { sums = sums_up; one_short = one_short; endless = endless }
