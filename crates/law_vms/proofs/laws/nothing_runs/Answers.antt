use Rattle.law_vms.proofs.Silent.{dead_are_silent, missing_are_silent, ties_begin, ties_stay}
use Rattle.law_vms.proofs.laws.nothing_runs.Goals as goal

pub returns-clause-dead : goal.returns-clause-dead
returns-clause-dead c = dead_are_silent

pub returns-clause-missing : goal.returns-clause-missing
returns-clause-missing c = missing_are_silent

pub returns-clause-begins : goal.returns-clause-begins
returns-clause-begins c = ties_begin

pub returns-clause-stays : goal.returns-clause-stays
returns-clause-stays c = ties_stay
