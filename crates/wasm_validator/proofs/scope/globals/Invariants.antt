use Rattle.std.proofs.Common.{◌≡◌, ◌++◌, take}
use Rattle.wasm_syntax.specs.Validity.{imports_of, global_of, types_of_globals}
use Rattle.wasm_validator.proofs.scope.globals.Given as goal

abbrev pub invariant-loop-g : goal.invariant-loop-g
invariant-loop-g l = l.all ≡ imports_of global_of l.m.imports ++ types_of_globals (take l.g-index l.m.globals)
