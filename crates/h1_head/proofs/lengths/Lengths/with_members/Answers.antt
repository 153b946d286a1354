use Rattle.std.proofs.Common.{List, ℕ, Option, Bor, option_copied, ap, ◌∙◌, inr}
use Rattle.h1_text.specs.Members.{rest_members}
use Rattle.h1_head.proofs.ListedLengths.{member_noted, none_left}
use Rattle.h1_head.proofs.lengths.Lengths.with_members.Goals as goal

pub loop-rest-init : goal.loop-rest-init
loop-rest-init c = record { wider = λ n between. between; seen = λ name some. inr some }

pub loop-rest-preserved : goal.loop-rest-preserved
loop-rest-preserved c =
    let m = c.first_member.result.0.now in
    let behind = rest_members (option_copied c.first_member.result.1) in
    let all = ap (λ (r : Option (Bor (List ℕ))). rest_members (option_copied r)) c.in-Some.is ∙ c.first_member.ensures.members in
    record {
      wider = λ n between. c.with_len-lengths.ensures.wider n (c.loop-rest.invariant.wider n between);
      seen = λ name some. member_noted c.loop-rest.lengths c.with_len-lengths.result name m behind _ all c.with_len-lengths.ensures.wider c.with_len-lengths.ensures.has (c.loop-rest.invariant.seen name some);
    }

pub returns-clause-members : goal.returns-clause-members
returns-clause-members c =
    λ name some. none_left c.loop-rest.lengths name _ (ap (λ (r : Option (Bor (List ℕ))). rest_members (option_copied r)) c.in_default.is) (c.loop-rest.invariant.seen name some)
