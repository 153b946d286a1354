use Rattle.promises.proofs.Replaying.{replay_has_its_headline}
use Rattle.promises.proofs.laws.replay_has_its_headline.Goals as goal

pub returns : goal.returns
returns g c = replay_has_its_headline _ c.each_has_its_worker.ensures
