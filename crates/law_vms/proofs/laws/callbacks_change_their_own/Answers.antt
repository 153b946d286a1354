use Rattle.law_vms.proofs.OwnChanges.{change_their_own, places_begin, places_stay}
use Rattle.law_vms.proofs.laws.callbacks_change_their_own.Goals as goal

pub returns-clause-contexts : goal.returns-clause-contexts
returns-clause-contexts c = change_their_own

pub returns-clause-begins : goal.returns-clause-begins
returns-clause-begins c = places_begin

pub returns-clause-stays : goal.returns-clause-stays
returns-clause-stays c = places_stay
