use Rattle.callouts.proofs.Places.{heard_here}
use Rattle.callouts.proofs.list.hear_at.Goals as goal

pub returns : goal.returns
returns c = heard_here c.hear.result c.args.at c.args.items.now.items c.index_mut.result.now c.hear.new.c c.requires c.index_mut.ensures.value c.hear.ensures
