use Rattle.promises.proofs.Serving.{serve_has_its_headline}
use Rattle.promises.proofs.laws.serve_has_its_headline.Goals as goal

pub returns : goal.returns
returns g c =
    serve_has_its_headline (record { trace = g.W.World.trace; last = g.W.World.last; nature = g.W.World.nature; faults = g.W.World.faults })
    c.each_call_of_a_fleet_stands_once.ensures c.lives_are_meant.ensures
