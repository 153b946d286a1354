use Rattle.std.proofs.Common.{arith, ◌≡◌, ◌+◌, ◌++◌, [], ◌∷◌, drop, length, ap, sym, subst, ◌∙◌, add-one, append_assoc, length-append}
use Rattle.std.specs.Option.{option_to_list}
use Rattle.std.specs.Vec.Iter.{into_iter_items}
use mathlib.Core.Option.{some-injective}
use lib.ListN.{get_elem?}
use Rattle.atomic_table.proofs.Lists.{at_map}
use Rattle.turn_table.specs.Seats.{HasAll}
use Rattle.metric_seats.specs.Places.{Metered, tables_of}
use Rattle.shared_seats.proofs.Lists.{next_member, head_of_drop, all_at}
use Rattle.shared_seats.proofs.Rows.{closed_more, ClosedSoFar}
use Rattle.shared_seats.proofs.metrics.MetricTables.close.Goals as goal

pub close-requires : goal.close-requires
close-requires c =
    let i = c.loop-table.invariant in let k = length c.loop-table.yielded in let places = c.args.places.items in let v = c.unwrap.result in
    let rest_is = sym i.4 ∙ (c.next-in-loop-table.ensures.items ∙ ap (λ r. option_to_list r ++ into_iter_items c.next-in-loop-table.new.self) c.unwrap.ensures) in
    let at = (head_of_drop places k v _ rest_is).0 in
    let table_is = ap (λ l. get_elem? l k) (sym c.requires.at) ∙ at_map tables_of places k v at in
    let first = all_at (λ (s : Metered). (s.names.number ≡ 1) × HasAll s.names) places k v c.requires.first at in
    record {
      at = some-injective (tables_of v) c.in-Some.table (sym table_is ∙ next_member c.loop-table.yielded _ _ c.args.self c.in-Some.table i.3 c.in-Some.ensures.steps.0);
      first = first;
    }

pub loop-table-preserved : goal.loop-table-preserved
loop-table-preserved c =
    let i = c.loop-table.invariant in let k = length c.loop-table.yielded in let places = c.args.places.items in let v = c.unwrap.result in
    let t = c.in-Some.table in let steps = c.in-Some.ensures.steps in let metrics = c.in-Ok.ensures.items in
    let next = c.next-in-loop-table.ensures.items ∙ ap (λ r. option_to_list r ++ into_iter_items c.next-in-loop-table.new.self) c.unwrap.ensures in
    let head = head_of_drop places k v _ (sym i.4 ∙ next) in
    let long = length-append c.loop-table.yielded (t ∷ []) in (
      tt,
      tt,
      (let a = i.2 in let b = ap length steps.0 in let d = steps.1 in omega arith),
      append_assoc c.loop-table.yielded (t ∷ []) (into_iter_items c.next.new.self) ∙ (ap (λ l. c.loop-table.yielded ++ l) (sym steps.0) ∙ i.3),
      sym head.1 ∙ ap (λ n. drop n places) (sym (long ∙ add-one k)),
      (let a = i.5 in let b = ap length next in let d = c.next-in-loop-table.ensures.len in let e = ap (λ r. length (option_to_list r)) c.unwrap.ensures in omega arith),
      ap length metrics ∙ (length-append c.loop-table.metrics.items _ ∙ (ap (λ n. n + 1) i.6 ∙ sym long)),
      subst (ClosedSoFar places) (sym metrics) (closed_more places c.loop-table.metrics.items k v c.close.result i.6 head.0 i.7 (record { names = c.close.ensures.names; words = c.close.ensures.words })),
      (let a = i.8 in let b = c.in-Ok.ensures.capacity in omega arith),
    )
