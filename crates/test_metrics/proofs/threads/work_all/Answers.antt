use Rattle.test_metrics.proofs.Going.{all_after, all_ready}
use Rattle.test_metrics.proofs.threads.work_all.Goals as goal

pub work_lists-requires-after_bounds : goal.work_lists-requires-after_bounds
work_lists-requires-after_bounds g c = λ κs lives. all_ready c.args.tables.now c.args.lists.items 2 c.requires.0 c.requires.1

pub returns-clause-all : goal.returns-clause-all
returns-clause-all g c = all_after c.args.tables.now c.args.lists.items c.in_ok-now.now.items c.requires.0 c.in_ok-now.ensures.len c.in_ok-now.ensures.each
