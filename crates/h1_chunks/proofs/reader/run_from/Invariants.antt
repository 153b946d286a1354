use Rattle.std.proofs.Common.{◌≤◌, ◌-◌, length}
use Rattle.h1_chunks.specs.Seen.{seen_place}
use Rattle.h1_chunks.proofs.Runs.{Gathers}
use Rattle.h1_chunks.proofs.reader.run_from.Given as goal

-- the bytes so far, and the run of what is left
abbrev pub invariant-loop-rest : goal.invariant-loop-rest
invariant-loop-rest l = record {
  within : l.run.used ≤ length l.text;
  few : length l.run.bytes ≤ 16384;
  run : Gathers l.run.bytes l.run.used (seen_place l.run.place) (seen_place l.fn.place) l.text;
}

abbrev pub decreases-loop-rest : goal.decreases-loop-rest
decreases-loop-rest l = 16384 - length l.run.bytes
