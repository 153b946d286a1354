use Rattle.std.proofs.Common.{refl, sym}
use Rattle.header_maps.specs.Faults.{add_fault}
use Rattle.header_maps.specs.Operations.{added}
use Rattle.abi_maps.specs.Maps.{added_to}
use Rattle.abi_maps.proofs.InPlace.{no_map, changes_are, nothing_changed}
use Rattle.abi_maps.proofs.changing.add_in.Goals as goal

pub returns-in_default-take_map-clause-changes : goal.returns-in_default-take_map-clause-changes
returns-in_default-take_map-clause-changes c =
    no_map c.args.contexts.now c.args.vm c.args.number (added_to c.args.name.now c.args.value.now) c.requires.vm c.if-number-gt5.false c.in-Some.exchange.now (sym c.in-Some.ensures.value)
    c.take_map.new.maps (sym c.in_default-take_map.ensures.list) c.in_default-take_map.ensures.maps

pub returns-clause-changes : goal.returns-clause-changes
returns-clause-changes c =
    let l = c.in-Some-take_map.list in
    changes_are c.args.contexts.now c.args.vm c.args.number (added_to c.args.name.now c.args.value.now) c.requires.vm c.if-number-gt5.false c.in-Some.exchange.now (sym c.in-Some.ensures.value)
    l (added l c.args.name.now c.args.value.now) (add_fault l c.args.name.now c.args.value.now) (sym c.in-Some-take_map.ensures.list) refl c.take_map.new.maps c.put_list.new.maps c.add-end.new.self c.in-Some-take_map.ensures.maps c.put_list.ensures
    c.ended.result c.add-end.result c.ended.ensures.told c.add-end.ensures.cause c.add-end.ensures.ok c.add-end.ensures.err

pub returns-clause-err : goal.returns-clause-err
returns-clause-err c =
    let l = c.in-Some-take_map.list in
    nothing_changed c.args.contexts.now c.args.vm c.args.number (added_to c.args.name.now c.args.value.now) c.requires.vm c.if-number-gt5.false c.in-Some.exchange.now (sym c.in-Some.ensures.value)
    l (added l c.args.name.now c.args.value.now) (add_fault l c.args.name.now c.args.value.now) (sym c.in-Some-take_map.ensures.list) refl c.take_map.new.maps c.put_list.new.maps c.add-end.new.self c.in-Some-take_map.ensures.maps c.put_list.ensures
    c.ended.result c.add-end.result c.ended.ensures.err c.add-end.ensures.err
