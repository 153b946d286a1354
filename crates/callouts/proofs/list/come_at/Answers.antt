use Rattle.callouts.proofs.Once.{on_err}
use Rattle.callouts.proofs.Places.{came_here, same_here}
use Rattle.callouts.proofs.list.come_at.Goals as goal

pub returns-clause-ok : goal.returns-clause-ok
returns-clause-ok c =
    came_here c.come.result c.args.what.now c.args.at c.args.items.now.items c.index_mut.result.now c.come.new.c c.requires c.index_mut.ensures.value c.come.ensures.callout c.come.ensures.next

pub returns-clause-err : goal.returns-clause-err
returns-clause-err c = on_err c.come.result (same_here c.args.at c.args.items.now.items c.index_mut.result.now c.come.new.c c.index_mut.ensures.value) c.come.ensures.err
