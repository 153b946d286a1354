use Rattle.std.proofs.Common.{length, drop, ◌-◌, ◌≡◌, ◌≤◌}
use Rattle.httparse.specs.Grammar.{skip_ows}
use Rattle.h1_chunks.proofs.size.skip_blanks.Given as goal

-- only blanks were passed over
abbrev pub invariant-loop-at : goal.invariant-loop-at
invariant-loop-at l = record {
  within : l.at ≤ length l.bytes;
  same : skip_ows (drop l.at l.bytes) ≡ skip_ows l.bytes;
}

abbrev pub decreases-loop-at : goal.decreases-loop-at
decreases-loop-at l = length l.bytes - l.at
