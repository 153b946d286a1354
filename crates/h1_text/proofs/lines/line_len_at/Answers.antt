use Rattle.std.proofs.Common.{ℕ}
use Rattle.std.proofs.lemmas.List.{take_rest}
use Rattle.h1_text.proofs.lines.line_len_at.Goals as goal

pub returns-clause-lines : goal.returns-clause-lines
returns-clause-lines c = rw (take_rest {X = ℕ}) at c.line_len.ensures.lines
