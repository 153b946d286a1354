use Rattle.std.proofs.Common.{◌≡◌, ◌+◌, length, option_copied, Option, None, Some, List, ℕ, true}
use Rattle.h1_model.specs.Fields.{lists}
use Rattle.h1_head.specs.Lengths.{IsBetween}
use Rattle.h1_text.specs.Members.{rest_members}
use Rattle.h1_head.proofs.ListedLengths.{IsSeen}
use Rattle.h1_head.proofs.lengths.Lengths.with_members.Given as goal

-- what was among the lengths still is; and a name that the value lists has one of them, or is a member that is left
abbrev pub invariant-loop-rest : goal.invariant-loop-rest
invariant-loop-rest l = record {
  wider : (n : ℕ) → IsBetween l.fn.self n → IsBetween l.lengths n;
  seen : (name : List ℕ) → lists name l.value ≡ true → IsSeen l.lengths name (rest_members (option_copied l.rest));
}

abbrev left : Option (List ℕ) → ℕ
left None = 0
left (Some rest) = length rest + 1

abbrev pub decreases-loop-rest : goal.decreases-loop-rest
decreases-loop-rest l = left (option_copied l.rest)
