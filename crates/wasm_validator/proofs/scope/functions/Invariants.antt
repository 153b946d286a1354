use Rattle.std.proofs.Common.{◌≡◌, ◌++◌, take}
use Rattle.wasm_syntax.specs.Validity.{imports_of, function_of}
use Rattle.wasm_validator.proofs.scope.functions.Given as goal

abbrev pub invariant-loop-f : goal.invariant-loop-f
invariant-loop-f l = l.all ≡ imports_of function_of l.m.imports ++ take l.f-index l.m.functions
