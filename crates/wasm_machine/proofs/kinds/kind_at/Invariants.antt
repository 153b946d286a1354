use Rattle.std.proofs.Common.{◌≡◌, ◌≤◌, length, take}
use Rattle.wasm_syntax.specs.declared.types.ValueType.TheVariants.{I32}
use Rattle.wasm_machine.specs.Kinds.{kind_by}
use Rattle.wasm_machine.proofs.kinds.kind_at.Given as goal

abbrev pub invariant-loop-at : goal.invariant-loop-at
invariant-loop-at l = record {
  low : l.at ≤ length l.stretches;
  same : kind_by I32 (take l.at l.stretches) l.k ≡ kind_by I32 l.stretches l.k;
}

abbrev pub decreases-loop-at : goal.decreases-loop-at
decreases-loop-at l = l.at
