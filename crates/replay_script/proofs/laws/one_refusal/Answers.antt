use Rattle.replay_script.proofs.Readings.{script_or_bad, one_first_bad}
use Rattle.replay_script.proofs.laws.one_refusal.Goals as goal

pub returns-clause-none : goal.returns-clause-none
returns-clause-none c = script_or_bad

pub returns-clause-one : goal.returns-clause-one
returns-clause-one c = one_first_bad
