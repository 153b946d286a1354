use Rattle.std.proofs.Common.{◌≡◌, ◌+◌, ◌≤◌, take, length}
use Rattle.std.specs.Prelude.{not}
use Rattle.std.specs.List.{suffix_len}
use Rattle.filter_chain.specs.Chains.{may_be_picked}
use Rattle.filter_chain.proofs.chain.Chain.ready.Given as goal

abbrev pub invariant-loop-n : goal.invariant-loop-n
invariant-loop-n l = record {
  same : l.n + suffix_len (λ s. not (may_be_picked s)) l.self-inside.stages.items ≡ length l.self-inside.stages.items + suffix_len (λ s. not (may_be_picked s)) (take l.n l.self-inside.stages.items);
  within : l.n ≤ length l.self-inside.stages.items;
}

abbrev pub decreases-loop-n : goal.decreases-loop-n
decreases-loop-n l = l.n
