use Rattle.shared_store.proofs.Laws.{starts, splits, first_goes_on, others_go_on, first_joins, may_split, may_join, may_shut}
use Rattle.shared_store.proofs.law.workers_come_and_go.Goals as goal

pub returns-clause-start : goal.returns-clause-start
returns-clause-start c = starts

pub returns-clause-split : goal.returns-clause-split
returns-clause-split c = splits

pub returns-clause-calls : goal.returns-clause-calls
returns-clause-calls c = first_goes_on

pub returns-clause-others : goal.returns-clause-others
returns-clause-others c = others_go_on

pub returns-clause-joined : goal.returns-clause-joined
returns-clause-joined c = first_joins

pub returns-clause-may_split : goal.returns-clause-may_split
returns-clause-may_split c = may_split

pub returns-clause-may_join : goal.returns-clause-may_join
returns-clause-may_join c = may_join

pub returns-clause-may_shut : goal.returns-clause-may_shut
returns-clause-may_shut c = may_shut
