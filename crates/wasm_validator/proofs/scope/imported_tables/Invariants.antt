use Rattle.std.proofs.Common.{◌≡◌, ◌≤◌, length, take}
use Rattle.wasm_syntax.specs.Validity.{imports_of, table_of}
use Rattle.wasm_validator.proofs.scope.imported_tables.Given as goal

abbrev pub invariant-loop-i : goal.invariant-loop-i
invariant-loop-i l =
    record {
      counted : l.count ≡ length (imports_of table_of (take l.i-index l.imports));
      most : l.count ≤ l.i-index;
    }
