use Rattle.std.proofs.Common.{◌≡◌, ◌+◌, length, option_copied, Option, None, Some, List, ℕ, true}
use Rattle.std.specs.List.{list_all}
use Rattle.header_maps.specs.Kept.{is_kept_field}
use Rattle.h1_model.specs.Fields.{members}
use Rattle.h1_text.specs.Members.{rest_members}
use Rattle.h1_head.specs.Unnamed.{unnamed}
use Rattle.h1_head.proofs.listed.without_members.Given as goal

-- what is left of the members decides
abbrev pub invariant-loop-rest : goal.invariant-loop-rest
invariant-loop-rest l = record {
  left : unnamed (rest_members (option_copied l.rest)) l.fields.pairs ≡ unnamed (members l.value) l.fn.fields.pairs;
  kept : list_all is_kept_field l.fields.pairs ≡ true;
}

abbrev left : Option (List ℕ) → ℕ
left None = 0
left (Some rest) = length rest + 1

abbrev pub decreases-loop-rest : goal.decreases-loop-rest
decreases-loop-rest l = left (option_copied l.rest)
