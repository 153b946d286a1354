use Rattle.shared_store.proofs.SeatRows.{of_two, of_nobody}
use Rattle.shared_store.proofs.law.worked_workers.Goals as goal

pub returns-clause-one_history_of_two : goal.returns-clause-one_history_of_two
returns-clause-one_history_of_two c = of_two

pub returns-clause-entry_of_nobody : goal.returns-clause-entry_of_nobody
returns-clause-entry_of_nobody c = of_nobody
