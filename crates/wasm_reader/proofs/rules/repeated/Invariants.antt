use Rattle.std.proofs.Common.{◌≡◌, ◌≤◌, ◌-◌, length, drop}
use Rattle.wasm_syntax.specs.Format.{repeated}
use Rattle.wasm_reader.specs.Steps.{fence_of}
use Rattle.wasm_reader.proofs.Loop.{with_front}
use Rattle.wasm_reader.proofs.rules.repeated.Given as goal

abbrev pub invariant-loop : goal.invariant-loop
invariant-loop g l =
    (l.place ≤ length l.b) × (with_front l.members ((repeated (l.count - l.counter) g.R.Rule.format).reads (fence_of l.b l.k) (drop l.place l.b)) ≡ (repeated l.count g.R.Rule.format).reads (fence_of l.b l.k) (drop l.at l.b))
