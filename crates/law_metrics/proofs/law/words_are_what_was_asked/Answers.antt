use Rattle.law_metrics.proofs.Words.{totals_asked, words_asked}
use Rattle.law_metrics.proofs.law.words_are_what_was_asked.Goals as goal

pub returns-clause-words : goal.returns-clause-words
returns-clause-words c = words_asked

pub returns-clause-totals : goal.returns-clause-totals
returns-clause-totals c = totals_asked
