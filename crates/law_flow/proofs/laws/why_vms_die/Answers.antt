use Rattle.law_flow.proofs.Dying.{deaths_are_killings, deaths_have_causes, dying_example}
use Rattle.law_flow.proofs.laws.why_vms_die.Goals as goal

pub returns-clause-step : goal.returns-clause-step
returns-clause-step g c = deaths_have_causes _

pub returns-clause-life : goal.returns-clause-life
returns-clause-life g c = deaths_are_killings _

pub returns-clause-worked : goal.returns-clause-worked
returns-clause-worked g c = dying_example
