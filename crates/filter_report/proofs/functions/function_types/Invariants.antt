use Rattle.std.proofs.Common.{◌≡◌, ◌++◌, take}
use Rattle.wasm_syntax.specs.Validity.{imports_of, function_of}
use Rattle.filter_report.proofs.functions.function_types.Given as goal

-- those of the imports, and then those of its own so far
abbrev pub invariant-loop-f : goal.invariant-loop-f
invariant-loop-f l = l.all ≡ imports_of function_of l.m.imports ++ take l.f-index l.m.functions
