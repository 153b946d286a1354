use Rattle.law_callouts.proofs.Ending.{callouts_begin_new, callouts_end_once, sound_lives}
use Rattle.law_callouts.proofs.Lives.{turns_are_lives}
use Rattle.law_callouts.proofs.Reports.{reports_have}
use Rattle.law_callouts.proofs.laws.callouts_end_once.Goals as goal

pub returns-clause-ends : goal.returns-clause-ends
returns-clause-ends g c = callouts_end_once _

pub returns-clause-begins : goal.returns-clause-begins
returns-clause-begins g c = callouts_begin_new _

pub returns-clause-sound : goal.returns-clause-sound
returns-clause-sound g c = sound_lives _

pub returns-clause-turns : goal.returns-clause-turns
returns-clause-turns g c = turns_are_lives _

pub returns-clause-counts : goal.returns-clause-counts
returns-clause-counts g c = reports_have
