use Rattle.std.proofs.Common.{◌≡◌, take}
use Rattle.wasm_syntax.specs.Validity.{imports_of, function_of}
use Rattle.filter_report.proofs.functions.imported_types.Given as goal

-- those of the imports so far
abbrev pub invariant-loop-i : goal.invariant-loop-i
invariant-loop-i l = l.all ≡ imports_of function_of (take l.i-index l.imports)
