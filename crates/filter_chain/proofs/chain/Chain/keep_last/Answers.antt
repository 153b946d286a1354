use Rattle.std.proofs.Common.{◌∙◌, arith}
use Rattle.filter_chain.proofs.Sizes.{keeps_last}
use Rattle.filter_chain.proofs.chain.Chain.keep_last.Goals as goal

pub loop-self-preserved : goal.loop-self-preserved
loop-self-preserved c = record { same = rw c.remove.ensures.items (keeps_last c.loop-self.self-inside.stages.items c.args.n (omega arith) ∙ c.loop-self.invariant.same) }
