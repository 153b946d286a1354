use Rattle.std.proofs.Common.{◌≡◌, take}
use Rattle.wasm_copy.proofs.module.copy_imports.Given as goal

abbrev pub invariant-loop-import : goal.invariant-loop-import
invariant-loop-import l = l.copy ≡ take l.import-index l.import-items
