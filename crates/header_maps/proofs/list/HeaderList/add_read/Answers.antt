use Rattle.std.proofs.Common.{ap, arith, ◌<◌}
use Rattle.header_maps.specs.Headers.{Headers}
use Rattle.header_maps.specs.Pairs.{plain_count}
use Rattle.header_maps.proofs.Kept.{headers_add, add_many}
use Rattle.header_maps.proofs.list.HeaderList.add_read.Goals as goal

pub returns-then-field_count-ge-FIELD_LIMIT-clause-cause : goal.returns-then-field_count-ge-FIELD_LIMIT-clause-cause
returns-then-field_count-ge-FIELD_LIMIT-clause-cause c =
    add_many c.args.self.now c.args.name.now c.args.value.now c.requires.name c.requires.value (omega arith)

pub invariant_of-self-2 : goal.invariant_of-self-2
invariant_of-self-2 c =
    let same = ap (λ (h : Headers). plain_count h.pairs) c.self.view_is in
    let room : plain_count c.self.inside.items < 100 = omega (arith, same) in
    rw c.in_ok-push_lowered.ensures.ok
    (headers_add c.self.inside.kind c.self.inside.items c.args.name.now c.args.value.now c.self.invariant c.requires.name c.requires.value c.requires.short room)
