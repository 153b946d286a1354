use Rattle.std.proofs.Common.{◌≡◌, ◌≤◌, length, drop}
use Rattle.wasm_syntax.specs.Grammar.{header, header_read}
use Rattle.wasm_reader.proofs.module.header.Given as goal

abbrev pub invariant-loop-i : goal.invariant-loop-i
invariant-loop-i l = (l.i ≤ length l.b) × (header_read (drop l.i header) (drop l.i l.b) ≡ header_read header l.b)
