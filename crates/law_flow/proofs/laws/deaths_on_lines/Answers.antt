use Rattle.law_flow.proofs.Deaths.{all_lines_leave, deaths_go_on, deaths_reach}
use Rattle.law_flow.proofs.laws.deaths_on_lines.Goals as goal

pub returns-clause-others : goal.returns-clause-others
returns-clause-others c = all_lines_leave

pub returns-clause-reach : goal.returns-clause-reach
returns-clause-reach c = deaths_reach

pub returns-clause-deeds : goal.returns-clause-deeds
returns-clause-deeds c = deaths_go_on
