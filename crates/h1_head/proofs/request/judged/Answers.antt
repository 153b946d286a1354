use Rattle.std.proofs.Common.{ap, ◌∙◌}
use Rattle.std.specs.Prelude.{codes}
use Rattle.std.specs.List.{list_all}
use Rattle.h1_model.specs.Fields.{values_of}
use Rattle.h1_model.specs.Target.{is_visible}
use Rattle.h1_head.specs.Held.{fields_of}
use Rattle.h1_head.proofs.Whole.{host_visible}
use Rattle.h1_head.proofs.request.judged.Goals as goal

pub targeted-requires-clause-host : goal.targeted-requires-clause-host
targeted-requires-clause-host c =
    let is = c.host_value.ensures (values_of (codes "host") (fields_of c.args.fields.now)) c.noted-noted.ensures.host in
    (rw c.in-Some.is at is).1

pub targeted-requires-clause-visible : goal.targeted-requires-clause-visible
targeted-requires-clause-visible c =
    let hosts = values_of (codes "host") (fields_of c.args.fields.now) in
    let is = rw c.in-Some.is at (c.host_value.ensures hosts c.noted-noted.ensures.host) in
    ap (list_all is_visible) is.1 ∙ host_visible c.args.minor hosts is.0
