use Rattle.promises.proofs.laws.connections_are_closed.Goals as goal

pub returns : goal.returns
returns g c = c.connections_end.ensures
