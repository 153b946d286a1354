use Rattle.std.proofs.Common.{◌≡◌, take}
use Rattle.wasm_copy.proofs.module.copy_segments.Given as goal

abbrev pub invariant-loop-segment : goal.invariant-loop-segment
invariant-loop-segment l = l.copy ≡ take l.segment-index l.segment-items
