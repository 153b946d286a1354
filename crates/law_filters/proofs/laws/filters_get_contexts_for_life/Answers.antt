use Rattle.law_filters.proofs.Walks.{filters_get_contexts}
use Rattle.law_filters.proofs.laws.filters_get_contexts_for_life.Goals as goal

pub returns : goal.returns
returns c = filters_get_contexts c.roots_stand.ensures.filters c.roots_stand_for_life.ensures.steps
