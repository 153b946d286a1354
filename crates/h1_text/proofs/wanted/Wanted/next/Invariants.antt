use Rattle.std.proofs.Common.{◌≡◌, ◌≤◌, List, ℕ, Bool, option_copied}
use Rattle.std.specs.List.{list_any}
use Rattle.h1_text.specs.Members.{rest_members}
use Rattle.h1_text.specs.Wanted.{IsLostOn, rest_len}
use Rattle.h1_text.proofs.wanted.Wanted.next.Given as goal

-- what a test finds among all members it finds among those that are left
abbrev pub invariant-loop-rest : goal.invariant-loop-rest
invariant-loop-rest l = record {
  members : (p : List ℕ → Bool) → IsLostOn l.self p → list_any p (rest_members (option_copied l.rest)) ≡ list_any p (rest_members (option_copied l.fn.list));
  shorter : rest_len (option_copied l.rest) ≤ rest_len (option_copied l.fn.list);
}

abbrev pub decreases-loop-rest : goal.decreases-loop-rest
decreases-loop-rest l = rest_len (option_copied l.rest)
