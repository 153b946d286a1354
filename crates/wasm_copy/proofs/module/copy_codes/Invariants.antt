use Rattle.std.proofs.Common.{◌≡◌, take}
use Rattle.wasm_copy.proofs.module.copy_codes.Given as goal

abbrev pub invariant-loop-code : goal.invariant-loop-code
invariant-loop-code l = l.copy ≡ take l.code-index l.code-items
