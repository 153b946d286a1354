use Rattle.std.proofs.Common.{◌≡◌, drop}
use Rattle.wasm_invoke.specs.Exports.{exported}
use Rattle.wasm_invoke.proofs.exports.exported.Given as goal

abbrev pub invariant-loop-e : goal.invariant-loop-e
invariant-loop-e l = exported l.name (drop l.e-index l.exports) ≡ exported l.name l.exports
