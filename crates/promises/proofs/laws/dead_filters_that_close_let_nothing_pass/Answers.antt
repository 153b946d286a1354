use Rattle.promises.proofs.laws.dead_filters_that_close_let_nothing_pass.Goals as goal

pub returns : goal.returns
returns c = c.closed_lets_nothing_pass.ensures
