use Rattle.store_model.proofs.Refusals.{registered_resolves, resolved_stays, name_stays}
use Rattle.store_model.proofs.law.ids_are_stable.Goals as goal

pub returns-clause-given : goal.returns-clause-given
returns-clause-given c = registered_resolves

pub returns-clause-resolved : goal.returns-clause-resolved
returns-clause-resolved c = resolved_stays

pub returns-clause-named : goal.returns-clause-named
returns-clause-named c = name_stays
