use Rattle.std.proofs.Common.{◌≡◌, take}
use Rattle.wasm_copy.proofs.module.copy_exports.Given as goal

abbrev pub invariant-loop-export : goal.invariant-loop-export
invariant-loop-export l = l.copy ≡ take l.export-index l.export-items
