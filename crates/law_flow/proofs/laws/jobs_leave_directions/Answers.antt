use Rattle.law_flow.proofs.Jobs.{ends_drop, jobs_leave, tells_are}
use Rattle.law_flow.proofs.laws.jobs_leave_directions.Goals as goal

pub returns-clause-quiet : goal.returns-clause-quiet
returns-clause-quiet g c = jobs_leave

pub returns-clause-telling : goal.returns-clause-telling
returns-clause-telling g c = tells_are _

pub returns-clause-drop : goal.returns-clause-drop
returns-clause-drop g c = ends_drop
