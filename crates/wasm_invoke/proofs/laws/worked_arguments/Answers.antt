use Rattle.std.proofs.Common.{refl}
use Rattle.wasm_invoke.proofs.Worked.{both_fit, other_order}
use Rattle.wasm_invoke.proofs.laws.worked_arguments.Goals as goal

pub returns : goal.returns
returns c = record { fit = both_fit; values = refl; order = other_order; too_few = λ h. h.1; too_many = λ h. h.1; none = tt }
