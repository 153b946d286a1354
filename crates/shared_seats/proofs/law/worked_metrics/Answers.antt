use Rattle.shared_seats.proofs.SeatRows.{names_are, no_second_id, of_nobody, told_twice, totals_are}
use Rattle.shared_seats.proofs.law.worked_metrics.Goals as goal

pub returns-clause-totals_of_two : goal.returns-clause-totals_of_two
returns-clause-totals_of_two c = totals_are

pub returns-clause-names_of_two : goal.returns-clause-names_of_two
returns-clause-names_of_two c = names_are

pub returns-clause-second_id : goal.returns-clause-second_id
returns-clause-second_id c = no_second_id

pub returns-clause-word_of_nobody : goal.returns-clause-word_of_nobody
returns-clause-word_of_nobody c = of_nobody

pub returns-clause-word_told_twice : goal.returns-clause-word_told_twice
returns-clause-word_told_twice c = told_twice
