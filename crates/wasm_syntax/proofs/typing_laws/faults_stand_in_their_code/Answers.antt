use Rattle.wasm_syntax.proofs.FaultPlaces.{untyped_is_bad, untyped_is_within, whole_goes_on}
use Rattle.wasm_syntax.proofs.typing_laws.faults_stand_in_their_code.Goals as goal

pub returns : goal.returns
returns c = record { bad = untyped_is_bad; within = untyped_is_within; to_the_end = whole_goes_on }
