use Rattle.law_runs.proofs.Made.{vms_are_made_with_machines, made_example}
use Rattle.law_runs.proofs.laws.vms_are_made_with_machines.Goals as goal

pub returns : goal.returns
returns c = record { machines = vms_are_made_with_machines; worked = made_example }
