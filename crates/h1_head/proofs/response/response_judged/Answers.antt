use Rattle.std.proofs.Common.{codes, None}
use Rattle.h1_model.specs.Fields.{values_of}
use Rattle.h1_model.specs.Length.{response_measure, is_without_body, measure_of_body}
use Rattle.h1_model.specs.Listed.{response_list}
use Rattle.h1_head.specs.Held.{fields_of}
use Rattle.h1_head.proofs.Reading.{unlisted}
use Rattle.h1_head.proofs.response.response_judged.Goals as goal

pub returns-in-Err : goal.returns-in-Err
returns-in-Err c =
    let fields = fields_of c.args.fields.now in
    let list = response_list c.args.status fields in
    let refusal = c.in_ok-refusal_of-in-Err.ensures list c.in-Err.ensures in
    unlisted 502 c.in_ok-refusal_of-in-Err.field-0 None c.args.minor fields
    (measure_of_body (is_without_body c.args.to_head c.args.status)
    (response_measure c.args.minor (values_of (codes "transfer-encoding") fields) (values_of (codes "content-length") fields)))
    list refusal.0 refusal.1
