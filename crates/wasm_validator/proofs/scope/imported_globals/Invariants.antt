use Rattle.std.proofs.Common.{◌≡◌, take}
use Rattle.wasm_syntax.specs.Validity.{imports_of, global_of}
use Rattle.wasm_validator.proofs.scope.imported_globals.Given as goal

abbrev pub invariant-loop-i : goal.invariant-loop-i
invariant-loop-i l = l.all ≡ imports_of global_of (take l.i-index l.imports)
