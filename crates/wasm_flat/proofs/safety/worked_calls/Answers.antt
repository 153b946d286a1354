use Rattle.wasm_flat.proofs.WorkedThreads.{words_fit, no_long_fits, no_third_fits, empty_call_fits, no_argument_fits}
use Rattle.wasm_flat.proofs.safety.worked_calls.Goals as goal

pub returns : goal.returns
returns c = record { words = words_fit; no_long = no_long_fits; no_third = no_third_fits; no_arguments = empty_call_fits; one_too_many = no_argument_fits }
