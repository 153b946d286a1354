use Rattle.law_turns.proofs.Downloads.{old_example, unmodified_example, endless_example}
use Rattle.law_turns.proofs.laws.worked_closing.Goals as goal

pub returns : goal.returns
returns c = record {
  old = old_example;
  unmodified = unmodified_example;
  endless = endless_example;
}
