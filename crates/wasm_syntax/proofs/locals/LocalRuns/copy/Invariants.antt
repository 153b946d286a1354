use Rattle.std.proofs.Common.{◌≡◌, take}
use Rattle.wasm_syntax.proofs.locals.LocalRuns.copy.Given as goal

abbrev pub invariant-loop-run : goal.invariant-loop-run
invariant-loop-run l = l.runs ≡ take l.run-index l.run-items
