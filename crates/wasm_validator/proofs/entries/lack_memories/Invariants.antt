use Rattle.std.proofs.Common.{◌≡◌, take, []}
use Rattle.wasm_syntax.specs.Validity.{imports_of, memory_of}
use Rattle.wasm_validator.proofs.entries.lack_memories.Given as goal

-- none so far
abbrev pub invariant-loop-i : goal.invariant-loop-i
invariant-loop-i l = imports_of memory_of (take l.i-index l.imports) ≡ []
