use Rattle.std.proofs.Common.{refl}
use Rattle.shared_queues.proofs.Trees.{whos_same, firsts_same}
use Rattle.shared_queues.proofs.firsts.refresh.Goals as goal

pub returns-clause-whos : goal.returns-clause-whos
returns-clause-whos c = whos_same c.args.places.now c.args.at _ c.index-places-at.result refl

pub returns-clause-firsts : goal.returns-clause-firsts
returns-clause-firsts c = firsts_same c.args.places.now c.args.at _ c.index-places-at.result refl
