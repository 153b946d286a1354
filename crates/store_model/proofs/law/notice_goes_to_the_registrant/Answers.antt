use Rattle.store_model.proofs.Queues.{notice_is_oldest, none_owed}
use Rattle.store_model.proofs.law.notice_goes_to_the_registrant.Goals as goal

pub returns-clause-oldest : goal.returns-clause-oldest
returns-clause-oldest c = notice_is_oldest

pub returns-clause-none : goal.returns-clause-none
returns-clause-none c = none_owed
