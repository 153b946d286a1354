use Rattle.std.proofs.Common.{◌≤◌, length, codes, arith, ap, None, Some, refl, sym, subst}
use Rattle.h1_model.specs.Fields.{values_of}
use Rattle.h1_model.specs.Head.{host_of}
use Rattle.h1_model.specs.Listed.{request_list}
use Rattle.h1_head.specs.Held.{fields_of}
use Rattle.h1_head.specs.Targets.{path_parts}
use Rattle.h1_head.proofs.Lists.{IfOk-map}
use Rattle.h1_head.proofs.Origin.{not_plain_gives_none, plain_from_test, plain_gives}
use Rattle.h1_head.proofs.Short.{host_short}
use Rattle.h1_head.proofs.request.path_targeted.Goals as goal

pub returns-then-not-is_plain_origin : goal.returns-then-not-is_plain_origin
returns-then-not-is_plain_origin c =
    record {
      parts = None;
      gives = not_plain_gives_none c.args.method.now c.args.target.now c.requires.slash (sym c.if-not-is_plain_origin.ensures);
      is = refl;
    }

pub path_list-list-requires-clause-host : goal.path_list-list-requires-clause-host
path_list-list-requires-clause-host c =
    let fields = c.args.fields.now in
    omega (arith, ap length c.requires.host, host_short (codes "host") fields.text.now fields.spans.now, fields.short)

pub path_list-list-requires-clause-plain : goal.path_list-list-requires-clause-plain
path_list-list-requires-clause-plain c = (plain_from_test c.args.target.now (sym c.if-not-is_plain_origin.ensures)).value

pub returns : goal.returns
returns c =
    let fields = fields_of c.args.fields.now in
    let host = host_of (values_of (codes "host") fields) in
    IfOk-map c.listed.result
    (λ answer is. record {
      parts = Some (path_parts c.args.target.now);
      gives = plain_gives c.args.method.now c.args.target.now c.requires.slash (sym c.if-not-is_plain_origin.ensures);
      is = is;
    })
    (c.listed.ensures (request_list c.args.method.now (path_parts c.args.target.now) host fields) (rw c.requires.host at c.path_list-list.ensures))
