use Rattle.std.proofs.Common.{◌≡◌, ◌≤◌, ◌+◌, length, take, drop}
use Rattle.std.specs.Prelude.{reverse}
use Rattle.wasm_machine.proofs.values.Values.topmost.Given as goal

abbrev pub invariant-loop-depth : goal.invariant-loop-depth
invariant-loop-depth l = record {
  low : l.depth ≤ l.count;
  members : l.taken ≡ reverse (drop l.depth (take l.count l.values.members));
  many : length l.taken + l.depth ≡ l.count;
}

abbrev pub decreases-loop-depth : goal.decreases-loop-depth
decreases-loop-depth l = l.depth
