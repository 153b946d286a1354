use Rattle.wasm_flat.proofs.Typed.{step_keeps_types, run_keeps_types, answer_keeps_types, call_keeps_types}
use Rattle.wasm_flat.proofs.safety.runs_keep_types.Goals as goal

pub returns : goal.returns
returns c = record { step = step_keeps_types; run = run_keeps_types; answered = answer_keeps_types; called = call_keeps_types }
