use Rattle.std.proofs.Common.{◌≡◌, ◌+◌, drop}
use Rattle.filter_chain.specs.Chains.{reach_count}
use Rattle.filter_chain.proofs.chain.Chain.reached.Given as goal

abbrev pub invariant-loop-stage : goal.invariant-loop-stage
invariant-loop-stage l = record {
  rest : reach_count l.fn.self ≡ l.n + reach_count (drop l.stage-index l.fn.self);
  same : l.n ≡ l.stage-index;
}
