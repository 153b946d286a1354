use Rattle.std.proofs.Common.{◌≡◌, IfOk, ◌∙◌, subst, arith}
use Rattle.httpdate.specs.Date.{unix_secs}
use Rattle.h1_model.specs.Moment.{second_of}
use Rattle.local_reply.proofs.Moments.{text_of_moment}
use Rattle.local_reply.proofs.date.moment_text.Goals as goal

pub returns : goal.returns
returns c =
    c.to_bytes.ensures
    ∙ text_of_moment c.unwrap.result c.args.now (omega arith)
    (subst (λ r. IfOk r (λ d. unix_secs d ≡ second_of c.args.now)) c.unwrap.ensures c.from_unix_secs.ensures.value)
