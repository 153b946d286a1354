use Rattle.law_roots.proofs.Standing.{callbacks_keep_roots, filters_get_contexts, roots_are_made, streams_keep_roots}
use Rattle.law_roots.proofs.Starting.{starts_have_roots}
use Rattle.law_roots.proofs.laws.roots_stand.Goals as goal

pub returns-clause-starts : goal.returns-clause-starts
returns-clause-starts c = starts_have_roots

pub returns-clause-made : goal.returns-clause-made
returns-clause-made c = roots_are_made

pub returns-clause-callbacks : goal.returns-clause-callbacks
returns-clause-callbacks c = callbacks_keep_roots

pub returns-clause-streams : goal.returns-clause-streams
returns-clause-streams c = streams_keep_roots

pub returns-clause-filters : goal.returns-clause-filters
returns-clause-filters c = filters_get_contexts
