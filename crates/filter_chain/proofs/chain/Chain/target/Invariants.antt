use Rattle.std.proofs.Common.{◌≡◌, ◌≤◌, ◌-◌, length}
use Rattle.filter_chain.specs.Chains.{target}
use Rattle.filter_chain.proofs.chain.Chain.target.Given as goal

abbrev pub invariant-loop-at : goal.invariant-loop-at
invariant-loop-at l = record {
  same : target l.at l.self-inside.stages.items ≡ target l.fn.from l.self-inside.stages.items;
  some : l.fn.from ≤ l.at;
  within : l.at ≤ length l.self-inside.stages.items;
}

abbrev pub decreases-loop-at : goal.decreases-loop-at
decreases-loop-at l = length l.self-inside.stages.items - l.at
