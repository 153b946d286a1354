use Rattle.law_turns.proofs.Backlog.{backlog_is_bounded, unread_is_bounded, reader_is_bounded}
use Rattle.law_turns.proofs.laws.backlog_is_bounded.Goals as goal

pub returns : goal.returns
returns c = record { waiting = backlog_is_bounded; unread = unread_is_bounded; reader = reader_is_bounded }
