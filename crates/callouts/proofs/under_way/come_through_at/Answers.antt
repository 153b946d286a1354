use Rattle.callouts.proofs.UnderWay.{through_here}
use Rattle.callouts.proofs.under_way.come_through_at.Goals as goal

pub returns : goal.returns
returns c =
    through_here c.come_through.result c.args.what.now c.args.at c.args.items.now.items c.index_mut.result.now c.come_through.new.c c.requires c.index_mut.ensures.value c.come_through.ensures
