use Rattle.shared_store.proofs.Laws.{first_at, split_at, calls_at, joined_at}
use Rattle.shared_store.proofs.law.seats_stay_at_their_tables.Goals as goal

pub returns-clause-first : goal.returns-clause-first
returns-clause-first c = first_at

pub returns-clause-split : goal.returns-clause-split
returns-clause-split c = split_at

pub returns-clause-calls : goal.returns-clause-calls
returns-clause-calls c = calls_at

pub returns-clause-joined : goal.returns-clause-joined
returns-clause-joined c = joined_at
