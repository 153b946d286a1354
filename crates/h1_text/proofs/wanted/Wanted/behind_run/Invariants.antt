use Rattle.std.proofs.Common.{◌≡◌, ◌≤◌, ◌-◌, List, ℕ, Bool, length, drop}
use Rattle.std.specs.List.{list_any}
use Rattle.h1_model.specs.Fields.{members}
use Rattle.h1_text.specs.Wanted.{IsLostOn}
use Rattle.h1_text.proofs.Skips.{left}
use Rattle.h1_text.proofs.wanted.Wanted.behind_run.Given as goal

-- what a test finds among all members it finds after the one in which the place is
abbrev pub invariant-loop-at : goal.invariant-loop-at
invariant-loop-at l = record {
  within : l.at ≤ length l.list;
  left : (p : List ℕ → Bool) → IsLostOn l.self p → left p (drop l.at l.list) ≡ list_any p (members l.list);
}

abbrev pub decreases-loop-at : goal.decreases-loop-at
decreases-loop-at l = length l.list - l.at
