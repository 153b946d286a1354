use Rattle.shared_store.proofs.SeatRows.{on_second, on_wrong, old_copy, anew}
use Rattle.shared_store.proofs.law.worked_seats.Goals as goal

pub returns-clause-call_on_second_table : goal.returns-clause-call_on_second_table
returns-clause-call_on_second_table c = on_second

pub returns-clause-call_on_wrong_table : goal.returns-clause-call_on_wrong_table
returns-clause-call_on_wrong_table c = on_wrong

pub returns-clause-reply_of_an_old_copy : goal.returns-clause-reply_of_an_old_copy
returns-clause-reply_of_an_old_copy c = old_copy

pub returns-clause-begun_anew : goal.returns-clause-begun_anew
returns-clause-begun_anew c = anew
