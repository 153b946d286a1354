use Rattle.std.proofs.Common.{ap, refl, subst, sym, Some}
use Rattle.h1_model.specs.Head.{found, not_yet, refused}
use Rattle.h1_model.specs.Messages.{head, refusal}
use Rattle.h1_model.specs.Unread.{none}
use Rattle.h1_head.specs.declared.head.HeadStep.{HeadStep}
use Rattle.h1_head.specs.Seen.{Spells, seen_head, seen_step}
use Rattle.h1_stream.specs.Seen.{seen_next, seen_stop}
use Rattle.h1_head.proofs.Lists.{IfOk-map}
use Rattle.h1_stream.proofs.Heads.{head_alone}
use Rattle.h1_stream.proofs.next.head_next.Goals as goal

pub returns-in-Head-clause-next : goal.returns-in-Head-clause-next
returns-in-Head-clause-next c =
    let spelled = subst (λ (s : HeadStep). Spells c.args.kind c.args.text.now (seen_step s)) c.in-Head.is c.in_ok-head.ensures.spelled in
    IfOk-map c.head_item.result
    (λ n e. head_alone c.args.kind c.args.ended c.args.text.now (found (seen_head c.in-Head.head) c.in-Head.used) (seen_next head n) spelled e)
    c.head_item.ensures.next

pub returns-in-NotYet-clause-next : goal.returns-in-NotYet-clause-next
returns-in-NotYet-clause-next c =
    let spelled = subst (λ (s : HeadStep). Spells c.args.kind c.args.text.now (seen_step s)) c.in-NotYet.is c.in_ok-head.ensures.spelled in
    head_alone c.args.kind c.args.ended c.args.text.now not_yet (none (seen_stop c.stop_at.result)) spelled (ap (λ w. Some (none w)) (sym c.stop_at.ensures))

pub returns-in-Refused-clause-next : goal.returns-in-Refused-clause-next
returns-in-Refused-clause-next c =
    let spelled = subst (λ (s : HeadStep). Spells c.args.kind c.args.text.now (seen_step s)) c.in-Refused.is c.in_ok-head.ensures.spelled in
    head_alone c.args.kind c.args.ended c.args.text.now (refused c.in-Refused.number) (none (refusal c.in-Refused.number)) spelled refl
