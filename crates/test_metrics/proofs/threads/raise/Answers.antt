use Rattle.std.proofs.Common.{◌∙◌}
use Rattle.test_metrics.proofs.threads.raise.Goals as goal

pub loop-preserved : goal.loop-preserved
loop-preserved g c = let i = c.loop.invariant in let once = c.raise_once.ensures in ((_, g.met.S.Shared.joined _ _ _ i.0.0 once.made.0 i.0.1 once.made.1), once.stores ∙ i.1)
