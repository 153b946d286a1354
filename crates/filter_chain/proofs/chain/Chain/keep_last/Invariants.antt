use Rattle.std.proofs.Common.{◌≡◌, ◌-◌, drop, length}
use Rattle.filter_chain.proofs.chain.Chain.keep_last.Given as goal

abbrev pub invariant-loop-self : goal.invariant-loop-self
invariant-loop-self l = record {
  same : drop (length l.self-inside.stages.items - l.n) l.self-inside.stages.items ≡ drop (length l.fn.self - l.n) l.fn.self;
}

abbrev pub decreases-loop-self : goal.decreases-loop-self
decreases-loop-self l = length l.self-inside.stages.items
