use Rattle.std.proofs.Common.{◌≡◌, ◌≤◌, ◌+◌, ◌++◌, length, drop}
use Rattle.std.specs.Vec.{vec_len, vec_capacity}
use Rattle.wasm_syntax.specs.LocalRuns.{unrolled, IsRising}
use Rattle.wasm_syntax.proofs.locals.LocalRuns.put_at.Given as goal

abbrev pub invariant-loop-run : goal.invariant-loop-run
invariant-loop-run l = record {
  items : l.types.items ++ unrolled l.before (drop l.run-index l.run-items) ≡ l.fn.types.items ++ l.self;
  rising : IsRising l.before (drop l.run-index l.run-items);
  few : length (unrolled l.before (drop l.run-index l.run-items)) ≤ 4096;
  room : vec_len l.types + length (unrolled l.before (drop l.run-index l.run-items)) ≤ vec_capacity l.types;
  capacity : vec_capacity l.fn.types ≤ vec_capacity l.types;
}
