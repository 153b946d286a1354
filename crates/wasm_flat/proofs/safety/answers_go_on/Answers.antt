use Rattle.wasm_flat.proofs.Made.{answered_runs, none_changes_nothing}
use Rattle.wasm_flat.proofs.safety.answers_go_on.Goals as goal

pub returns : goal.returns
returns c = record { runs = answered_runs; none = none_changes_nothing }
