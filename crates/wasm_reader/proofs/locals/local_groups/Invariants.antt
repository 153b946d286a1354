use Rattle.std.proofs.Common.{◌≡◌, ◌≤◌, ◌-◌, length, drop}
use Rattle.wasm_syntax.specs.Grammar.{local_groups}
use Rattle.wasm_reader.specs.Steps.{fence_of}
use Rattle.wasm_reader.proofs.Loop.{with_front}
use Rattle.wasm_reader.proofs.locals.local_groups.Given as goal

abbrev pub invariant-loop : goal.invariant-loop
invariant-loop l =
    (l.place ≤ length l.b) × ((l.before ≤ 4096) × (length l.locals ≡ l.before)) × (with_front l.locals ((local_groups (l.groups - l.counter) l.before).reads (fence_of l.b l.k) (drop l.place l.b)) ≡ (local_groups l.groups 0).reads (fence_of l.b l.k) (drop l.at l.b))
