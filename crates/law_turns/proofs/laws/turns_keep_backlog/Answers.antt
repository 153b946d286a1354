use Rattle.law_turns.proofs.BacklogTurns.{backlog_is_kept, events_fit}
use Rattle.law_turns.proofs.laws.turns_keep_backlog.Goals as goal

pub returns-clause-events : goal.returns-clause-events
returns-clause-events g c = events_fit _

pub returns-clause-turns : goal.returns-clause-turns
returns-clause-turns g c = backlog_is_kept _ _ _
