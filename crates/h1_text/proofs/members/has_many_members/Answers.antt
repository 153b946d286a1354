use Rattle.std.proofs.Common.{◌∙◌, ◌∷◌, ℕ, List, length, option_copied, Option, Bor, ap}
use Rattle.h1_model.specs.Fields.{members}
use Rattle.h1_text.specs.Members.{rest_members}
use Rattle.h1_text.proofs.Splits.{members_some, past_four}
use Rattle.h1_text.proofs.members.has_many_members.Goals as goal

pub returns-then-count-ge-FEW : goal.returns-then-count-ge-FEW
returns-then-count-ge-FEW c =
    let after = c.in_default-Some.after.now in
    let all = c.first_member.ensures.members
    ∙ ap (λ (r : Option (Bor (List ℕ))). c.first_member.result.0.now ∷ rest_members (option_copied r)) c.in_default-Some.is-1 in
    past_four c.loop-after.count (length (members c.loop-after.rest.now)) (length (members c.args.value.now)) (length (members after))
    c.if-count-ge-FEW.true c.loop-after.invariant.1 (ap length all) (members_some after)
