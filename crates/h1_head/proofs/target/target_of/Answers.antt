use Rattle.std.proofs.Common.{sym}
use Rattle.http_uri.specs.Uri.{uri_scheme, uri_authority, uri_data}
use Rattle.h1_model.proofs.TargetLemmas.{target_given}
use Rattle.h1_head.specs.Targets.{seen_target_option}
use Rattle.h1_head.proofs.Lists.{IfOk-map}
use Rattle.h1_head.proofs.target.target_of.Goals as goal

pub returns-in-Ok : goal.returns-in-Ok
returns-in-Ok c =
    let uri = c.in-Ok.uri in
    IfOk-map c.parts_of.result
    (λ parts is. target_given c.args.method.now c.args.target.now (uri_scheme uri) (uri_authority uri) (uri_data uri)
    (seen_target_option parts) c.in-Ok.ensures.ok (sym is))
    c.parts_of.ensures
