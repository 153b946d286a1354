use Rattle.std.proofs.Common.{◌≡◌, ◌+◌, length, option_copied, Option, None, Some, List, ℕ}
use Rattle.h1_model.specs.Fields.{members}
use Rattle.h1_head.specs.Measures.{agreed_length}
use Rattle.h1_text.specs.Members.{rest_members}
use Rattle.h1_head.proofs.length.agreed.Given as goal

-- what is left decides
abbrev pub invariant-loop-rest : goal.invariant-loop-rest
invariant-loop-rest l = agreed_length l.known (rest_members (option_copied l.rest)) ≡ agreed_length l.fn.known (members l.value)

abbrev left : Option (List ℕ) → ℕ
left None = 0
left (Some rest) = length rest + 1

abbrev pub decreases-loop-rest : goal.decreases-loop-rest
decreases-loop-rest l = left (option_copied l.rest)
