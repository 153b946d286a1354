use Rattle.promises.proofs.Serving.{fleets_have_their_headline}
use Rattle.promises.proofs.laws.fleets_have_their_headline.Goals as goal

pub returns : goal.returns
returns g c = fleets_have_their_headline g.W.World.trace g.W.World.nature g.W.World.faults g.H.Host.calling c.each_call_of_a_fleet_stands_once.ensures c.lives_are_meant.ensures
