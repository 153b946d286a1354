use Rattle.std.proofs.Common.{◌≡◌, take}
use Rattle.wasm_copy.proofs.module.copy_globals.Given as goal

abbrev pub invariant-loop-global : goal.invariant-loop-global
invariant-loop-global l = l.copy ≡ take l.global-index l.global-items
