use Rattle.shared_store.proofs.Laws.{first_legal, split_legal, calls_legal, joined_legal}
use Rattle.shared_store.proofs.law.what_seats_have_seen_is_legal.Goals as goal

pub returns-clause-first : goal.returns-clause-first
returns-clause-first c = first_legal

pub returns-clause-split : goal.returns-clause-split
returns-clause-split c = split_legal

pub returns-clause-calls : goal.returns-clause-calls
returns-clause-calls c = calls_legal

pub returns-clause-joined : goal.returns-clause-joined
returns-clause-joined c = joined_legal
