use Rattle.law_turns.proofs.Due.{due_examples, deadline_examples, tick_examples, notice_examples}
use Rattle.law_turns.proofs.laws.worked_due.Goals as goal

pub returns : goal.returns
returns c = record { wanted = due_examples; deadlines = deadline_examples; ticks = tick_examples; notices = notice_examples }
