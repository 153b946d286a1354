use Rattle.std.proofs.Common.{◌+◌, ◌++◌, List, [], take, drop, get_or, length, ap, ◌∙◌, arith}
use Rattle.std.proofs.lemmas.List.Quantifiers.{position-Some}
use Rattle.http_header.specs.Token.{lowercase}
use Rattle.header_maps.specs.Operations.{without}
use Rattle.header_maps.specs.Pairs.{Pair, is_named}
use Rattle.header_maps.proofs.Looking.{same_at}
use Rattle.header_maps.proofs.Places.{put_is_set, put_long}
use Rattle.header_maps.proofs.Replacing.{with_value_at}
use Rattle.header_maps.proofs.pairs.put_value.Goals as goal

none : Pair
none = ([], [])

pub set_value-requires : goal.set_value-requires
set_value-requires c = (position-Some (is_named (lowercase c.args.name.now)) c.args.items.now c.args.at none c.requires).0

pub overflow_add-at : goal.overflow_add-at
overflow_add-at c =
    let within = (position-Some (is_named (lowercase c.args.name.now)) c.args.items.now c.args.at none c.requires).0 in
    omega (arith, within, c.len-len.ensures, c.len-len.type_inv)

pub drop_from-requires : goal.drop_from-requires
drop_from-requires c =
    let within = (position-Some (is_named (lowercase c.args.name.now)) c.args.items.now c.args.at none c.requires).0 in
    let long = ap length c.in_ok-set_value.ensures.ok ∙ put_long c.args.items.now c.args.at c.args.value.now in
    omega (arith, within, long)

pub returns-clause-ok : goal.returns-clause-ok
returns-clause-ok c =
    let n = lowercase c.args.name.now in
    let items = c.args.items.now in
    let value = c.args.value.now in
    let within = (position-Some (is_named n) items c.args.at none c.requires).0 in
    let d = get_or items c.args.at none in
    let is = same_at items c.args.at none d within in
    c.drop_from.ensures
    ∙ ap (λ (ps : List Pair). take (c.args.at + 1) ps ++ without n (drop (c.args.at + 1) ps)) (c.in_ok-set_value.ensures.ok ∙ put_is_set items c.args.at value none within)
    ∙ with_value_at n value items c.args.at d c.requires is
