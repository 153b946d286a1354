use Rattle.wasm_flat.proofs.WorkedThreads.{adds, adds_no_long, branches_out, waits_for_word, waits_for_no_long}
use Rattle.wasm_flat.proofs.safety.worked_threads.Goals as goal

pub returns : goal.returns
returns c = record { adds = adds; adds_no_long = adds_no_long; branches = branches_out; waits = waits_for_word; waits_for_no_long = waits_for_no_long }
