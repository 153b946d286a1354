use Rattle.std.proofs.Common.{◌≡◌, ◌≤◌, ◌<◌, ◌-◌, length, Some}
use Rattle.std.specs.Prelude.{slice_get}
use Rattle.wasm_syntax.specs.declared.locals.LocalRun.{LocalRun}
use Rattle.wasm_syntax.specs.LocalRuns.{start_of}
use Rattle.wasm_syntax.proofs.locals.over.Given as goal

abbrev pub invariant-loop-low : goal.invariant-loop-low
invariant-loop-low l = record {
  order : l.low ≤ l.high;
  place : l.high ≤ length l.runs;
  begins : start_of 0 l.runs l.low ≤ l.x;
  ends : (r : LocalRun) → slice_get l.runs l.high ≡ Some r → l.x < r.end;
}

abbrev pub decreases-loop-low : goal.decreases-loop-low
decreases-loop-low l = l.high - l.low
