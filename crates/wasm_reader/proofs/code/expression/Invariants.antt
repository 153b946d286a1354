use Rattle.std.proofs.Common.{◌≡◌, ◌≤◌, ◌-◌, length, drop, reverse}
use Rattle.wasm_syntax.specs.Grammar.{expression}
use Rattle.wasm_reader.specs.Steps.{fence_of}
use Rattle.wasm_reader.proofs.Loop.{with_front}
use Rattle.wasm_reader.proofs.Chain.{expression_reads}
use Rattle.wasm_reader.proofs.code.expression.Given as goal

abbrev pub invariant-loop : goal.invariant-loop
invariant-loop l =
    (l.place ≤ length l.b) × (with_front l.body (expression_reads (length l.b - l.counter) (reverse l.blocks) (fence_of l.b l.k) (drop l.place l.b)) ≡ expression.reads (fence_of l.b l.k) (drop l.at l.b))
