use Rattle.law_turns.proofs.Deaths.{death_lines}
use Rattle.law_turns.proofs.laws.worked_death_lines.Goals as goal

pub returns : goal.returns
returns c = death_lines
