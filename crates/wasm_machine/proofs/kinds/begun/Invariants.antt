use Rattle.std.proofs.Common.{◌≡◌, ◌≤◌, ◌<◌, ℕ, length, take}
use Rattle.wasm_syntax.specs.declared.types.ValueType.TheVariants.{I32}
use Rattle.wasm_machine.specs.Kinds.{kind_by}
use Rattle.wasm_machine.proofs.kinds.begun.Given as goal

abbrev pub invariant-loop-keep : goal.invariant-loop-keep
invariant-loop-keep l = record {
  low : l.keep ≤ length l.stretches;
  same : (k : ℕ) → k < l.count → kind_by I32 (take l.keep l.stretches) k ≡ kind_by I32 l.stretches k;
}

abbrev pub decreases-loop-keep : goal.decreases-loop-keep
decreases-loop-keep l = l.keep
