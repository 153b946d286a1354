use Rattle.std.proofs.Common.{◌≡◌, take, []}
use Rattle.wasm_syntax.specs.Validity.{imports_of, table_of}
use Rattle.wasm_validator.proofs.entries.lack_tables.Given as goal

-- none so far
abbrev pub invariant-loop-i : goal.invariant-loop-i
invariant-loop-i l = imports_of table_of (take l.i-index l.imports) ≡ []
