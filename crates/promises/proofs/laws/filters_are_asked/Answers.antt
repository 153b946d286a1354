use Rattle.promises.proofs.laws.filters_are_asked.Goals as goal

pub returns : goal.returns
returns c = c.every_filter_is_asked.ensures
