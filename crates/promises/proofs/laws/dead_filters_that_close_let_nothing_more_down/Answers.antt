use Rattle.promises.proofs.laws.dead_filters_that_close_let_nothing_more_down.Goals as goal

pub returns : goal.returns
returns c = record { ended = c.dead_filters_end_exchanges.ensures; after = c.nothing_follows_the_end.ensures }
