use Rattle.law_runs.proofs.Fuel.{runs_have_their_fuel, fuel_examples}
use Rattle.law_runs.proofs.laws.runs_have_their_fuel.Goals as goal

pub returns : goal.returns
returns c = record { runs = runs_have_their_fuel c.vms_keep_their_bounds.ensures; worked = fuel_examples }
