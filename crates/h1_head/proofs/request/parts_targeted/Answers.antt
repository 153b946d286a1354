use Rattle.std.proofs.Common.{◌≤◌, length, codes, arith, ap, Some, None, IfSome, Option, List, ℕ, ◌≤◌}
use Rattle.header_maps.specs.Kept.{byte_limit}
use Rattle.h1_model.specs.Fields.{values_of}
use Rattle.h1_model.specs.Head.{host_of}
use Rattle.h1_model.specs.Listed.{request_list}
use Rattle.h1_head.specs.Held.{fields_of}
use Rattle.h1_head.specs.Targets.{seen_target}
use Rattle.h1_head.proofs.Lists.{IfOk-map}
use Rattle.h1_head.proofs.Short.{host_short, parts_short}
use Rattle.h1_head.proofs.request.parts_targeted.Goals as goal

pub request_list-list-requires-clause-host : goal.request_list-list-requires-clause-host
request_list-list-requires-clause-host c =
    let fields = c.args.fields.now in
    omega (arith, ap length c.requires.host, host_short (codes "host") fields.text.now fields.spans.now, fields.short)

shorter : (o : Option (List ℕ)) → IfSome o (λ a. length a ≤ 65536) → IfSome o (λ a. length a ≤ byte_limit)
shorter None short = tt
shorter (Some a) short = omega (arith, short)

pub request_list-list-requires-clause-authority : goal.request_list-list-requires-clause-authority
request_list-list-requires-clause-authority c =
    let given = rw c.in-Some.is at c.in_ok-target.ensures in
    shorter c.in-Some.target.authority (parts_short c.args.method.now c.args.target.now (seen_target c.in-Some.target) given).authority

pub request_list-list-requires-clause-path : goal.request_list-list-requires-clause-path
request_list-list-requires-clause-path c =
    let given = rw c.in-Some.is at c.in_ok-target.ensures in
    omega (arith, (parts_short c.args.method.now c.args.target.now (seen_target c.in-Some.target) given).path)

pub returns : goal.returns
returns c =
    let fields = fields_of c.args.fields.now in
    let target = seen_target c.in-Some.target in
    let host = host_of (values_of (codes "host") fields) in
    let gives = rw c.in-Some.is at c.in_ok-target.ensures in
    IfOk-map c.listed.result (λ answer is. record { parts = Some target; gives = gives; is = is })
    (c.listed.ensures (request_list c.args.method.now target host fields) (rw c.requires.host at c.request_list-list.ensures))
