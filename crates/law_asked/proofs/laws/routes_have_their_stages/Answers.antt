use Rattle.law_asked.proofs.Begins.{begin_in_order}
use Rattle.law_asked.proofs.Routes.{have_filters, have_stages}
use Rattle.law_asked.proofs.laws.routes_have_their_stages.Goals as goal

pub returns-clause-filters : goal.returns-clause-filters
returns-clause-filters c = have_filters

pub returns-clause-stages : goal.returns-clause-stages
returns-clause-stages c = have_stages

pub returns-clause-begins : goal.returns-clause-begins
returns-clause-begins c = begin_in_order
