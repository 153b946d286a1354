use Rattle.std.proofs.Common.{refl, sym}
use Rattle.header_maps.specs.Faults.{remove_fault}
use Rattle.header_maps.specs.Operations.{removed}
use Rattle.abi_maps.specs.Maps.{removed_from}
use Rattle.abi_maps.proofs.InPlace.{no_map, changes_are, nothing_changed}
use Rattle.abi_maps.proofs.changing.remove_in.Goals as goal

pub returns-in_default-take_map-clause-changes : goal.returns-in_default-take_map-clause-changes
returns-in_default-take_map-clause-changes c =
    no_map c.args.contexts.now c.args.vm c.args.number (removed_from c.args.name.now) c.requires c.if-number-gt5.false c.in-Some.exchange.now (sym c.in-Some.ensures.value)
    c.take_map.new.maps (sym c.in_default-take_map.ensures.list) c.in_default-take_map.ensures.maps

pub returns-clause-changes : goal.returns-clause-changes
returns-clause-changes c =
    let l = c.in-Some-take_map.list in
    changes_are c.args.contexts.now c.args.vm c.args.number (removed_from c.args.name.now) c.requires c.if-number-gt5.false c.in-Some.exchange.now (sym c.in-Some.ensures.value)
    l (removed l c.args.name.now) (remove_fault c.args.name.now) (sym c.in-Some-take_map.ensures.list) refl c.take_map.new.maps c.put_list.new.maps c.remove-end.new.self c.in-Some-take_map.ensures.maps c.put_list.ensures
    c.ended.result c.remove-end.result c.ended.ensures.told c.remove-end.ensures.cause c.remove-end.ensures.ok c.remove-end.ensures.err

pub returns-clause-err : goal.returns-clause-err
returns-clause-err c =
    let l = c.in-Some-take_map.list in
    nothing_changed c.args.contexts.now c.args.vm c.args.number (removed_from c.args.name.now) c.requires c.if-number-gt5.false c.in-Some.exchange.now (sym c.in-Some.ensures.value)
    l (removed l c.args.name.now) (remove_fault c.args.name.now) (sym c.in-Some-take_map.ensures.list) refl c.take_map.new.maps c.put_list.new.maps c.remove-end.new.self c.in-Some-take_map.ensures.maps c.put_list.ensures
    c.ended.result c.remove-end.result c.ended.ensures.err c.remove-end.ensures.err
