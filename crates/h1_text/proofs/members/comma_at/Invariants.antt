use Rattle.std.proofs.Common.{◌≡◌, ◌-◌, ◌<◌, ◌≤◌, ℕ, false, length}
use Rattle.std.specs.Prelude.{slice_index}
use Rattle.h1_text.specs.Members.{is_comma}
use Rattle.h1_text.proofs.members.comma_at.Given as goal

-- no comma so far
abbrev pub invariant-loop-at : goal.invariant-loop-at
invariant-loop-at l = record {
  within : l.at ≤ length l.list;
  before : (k : ℕ) → k < l.at → is_comma (slice_index l.list k) ≡ false;
}

abbrev pub decreases-loop-at : goal.decreases-loop-at
decreases-loop-at l = length l.list - l.at
