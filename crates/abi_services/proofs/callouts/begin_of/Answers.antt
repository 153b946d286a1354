use Rattle.std.proofs.Common.{sym, ◌∙◌}
use Rattle.header_maps.specs.declared.kind.ListKind.TheVariants as kinds
use Rattle.header_maps.specs.Faults.{fault_of, set_fault}
use Rattle.header_maps.specs.Operations.{all_set}
use Rattle.contexts.specs.Reached.{seen}
use Rattle.pair_codec.specs.Lists.{with_scheme}
use Rattle.abi_services.specs.Callouts.{has_no_room, request_for}
use Rattle.abi_services.proofs.Refused.{refused_same}
use Rattle.abi_services.proofs.callouts.begin_of.Goals as goal

pub returns-in-Some-clause-changes : goal.returns-in-Some-clause-changes
returns-in-Some-clause-changes c =
    let s = seen c.args.contexts.now c.args.vm in
    let headers = with_scheme c.args.headers.now in
    refused_same (fault_of c.request_of-fields.result) (set_fault kinds.Request headers) (fault_of c.list_of-last.result) (set_fault kinds.Plain c.args.trailers.now) (has_no_room c.args.body.now s) c.in-Some.status
    (request_for c.args.asker (all_set kinds.Request headers) c.args.body.now (all_set kinds.Plain c.args.trailers.now) c.args.timeout_ms s) s c.args.vm c.args.contexts.now c.requires.vm c.request_of-fields.ensures.cause c.list_of-last.ensures.cause
    (sym c.refusal.ensures.status ∙ c.in-Some.is)
