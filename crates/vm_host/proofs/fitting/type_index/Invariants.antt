use Rattle.std.proofs.Common.{◌≡◌, ◌++◌, drop}
use Rattle.std.specs.Prelude.{slice_get}
use Rattle.wasm_syntax.specs.Validity.{function_of, imports_of}
use Rattle.vm_host.proofs.fitting.type_index.Given as goal

abbrev pub invariant-loop-i : goal.invariant-loop-i
invariant-loop-i l = slice_get (imports_of function_of (drop l.i-index l.imports) ++ l.own) l.left ≡ slice_get (imports_of function_of l.imports ++ l.own) l.x
