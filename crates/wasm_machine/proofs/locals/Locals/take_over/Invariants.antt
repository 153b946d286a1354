use Rattle.std.proofs.Common.{◌≡◌, ◌≤◌, ◌+◌, ◌++◌, length, take, drop}
use Rattle.std.specs.Prelude.{reverse}
use Rattle.wasm_machine.proofs.locals.Locals.take_over.Given as goal

abbrev pub invariant-loop-depth : goal.invariant-loop-depth
invariant-loop-depth l = record {
  low : l.depth ≤ l.count;
  members : l.self.members ≡ l.fn.self.members ++ reverse (drop l.depth (take l.count l.values.members));
  many : length l.self.members + l.depth ≡ length l.fn.self.members + l.count;
  room : l.self.room ≡ l.fn.self.room;
}

abbrev pub decreases-loop-depth : goal.decreases-loop-depth
decreases-loop-depth l = l.depth
