use Rattle.std.proofs.Common.{◌≡◌, take}
use Rattle.wasm_syntax.specs.Validity.{imports_of, function_of}
use Rattle.wasm_validator.proofs.scope.imported_functions.Given as goal

abbrev pub invariant-loop-i : goal.invariant-loop-i
invariant-loop-i l = l.all ≡ imports_of function_of (take l.i-index l.imports)
