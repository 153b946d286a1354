use Rattle.std.proofs.Common.{codes, Some}
use Rattle.h1_model.specs.Fields.{values_of}
use Rattle.h1_model.specs.Length.{request_measure}
use Rattle.h1_head.specs.Held.{fields_of}
use Rattle.h1_head.specs.Targets.{seen_form}
use Rattle.h1_head.proofs.Reading.{unlisted}
use Rattle.h1_head.proofs.request.listed.Goals as goal

pub returns-in-Err : goal.returns-in-Err
returns-in-Err c =
    λ o is.
    let fields = fields_of c.args.fields.now in
    let refusal = c.in_ok-refusal_of-in-Err.ensures o (rw c.in-Err.is at is) in
    unlisted 400 c.in_ok-refusal_of-in-Err.field-0 (Some (seen_form c.args.form)) c.args.minor fields
    (request_measure c.args.minor (values_of (codes "transfer-encoding") fields) (values_of (codes "content-length") fields)) o refusal.0 refusal.1
