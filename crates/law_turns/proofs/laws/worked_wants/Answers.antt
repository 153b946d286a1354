use Rattle.law_turns.proofs.Backlog.{room_examples, text_examples, line_examples}
use Rattle.law_turns.proofs.laws.worked_wants.Goals as goal

pub returns : goal.returns
returns c = record { waiting = room_examples; unread = text_examples; lines = line_examples }
