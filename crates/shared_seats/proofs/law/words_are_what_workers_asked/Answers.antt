use Rattle.shared_seats.proofs.Laws.{words_asked, totals_asked}
use Rattle.shared_seats.proofs.law.words_are_what_workers_asked.Goals as goal

pub returns-clause-words : goal.returns-clause-words
returns-clause-words c = words_asked

pub returns-clause-totals : goal.returns-clause-totals
returns-clause-totals c = totals_asked
