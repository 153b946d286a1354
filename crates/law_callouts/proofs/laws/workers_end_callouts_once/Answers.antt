use Rattle.law_callouts.proofs.Workers.{workers_begin_new, workers_end_once, workers_stay_sound}
use Rattle.law_callouts.proofs.laws.workers_end_callouts_once.Goals as goal

pub returns-clause-ends : goal.returns-clause-ends
returns-clause-ends c = workers_end_once c.callbacks_change_their_own.ensures.contexts c.callbacks_change_their_own.ensures.stays

pub returns-clause-begins : goal.returns-clause-begins
returns-clause-begins c = workers_begin_new c.callbacks_change_their_own.ensures.contexts c.callbacks_change_their_own.ensures.stays

pub returns-clause-sound : goal.returns-clause-sound
returns-clause-sound c = workers_stay_sound c.callbacks_change_their_own.ensures.contexts c.callbacks_change_their_own.ensures.stays
