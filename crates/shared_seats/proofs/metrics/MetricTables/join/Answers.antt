use Rattle.std.proofs.Common.{arith, ◌≡◌, ◌+◌, ◌<◌, ◌≤◌, [], ◌∷◌, ◌++◌, length, ap, sym, ◌∙◌, append_assoc, length-append}
use Rattle.atomic_table.proofs.Lists.{at_index}
use Rattle.turn_table.proofs.Places.{at_below}
use mathlib.Core.Option.{some}
use lib.ListN.{get_elem?}
use Rattle.std.specs.Vec.Iter.{into_iter_items}
use Rattle.metric_seats.specs.Places.{Metered}
use Rattle.shared_seats.proofs.Lists.{next_member, all_at}
use Rattle.shared_seats.proofs.Rows.{table_at, as_long, joined_next}
use Rattle.shared_seats.proofs.metrics.MetricTables.join.Goals as goal

pub join-requires : goal.join-requires
join-requires c =
    let k = c.loop-place.vm in let old = c.args.places.now.items in let end = c.args.ended.items in let now = c.loop-place.places.items in
    let i = c.loop-place.invariant in let v = c.index_mut.result.now in let u = c.in-Some.place in
    let u_at : get_elem? end k ≡ some u = ap (get_elem? end) i.4 ∙ next_member c.loop-place.yielded _ _ end u i.3 c.in-Some.ensures.steps.0 in
    let inside : k < length now = let a = at_below end k u u_at in let b = i.5.as_many in let d = as_long c.args.self.now old end c.requires.at.0 c.requires.at.1 in omega arith in
    let v_at = i.5.others k v (omega arith) (at_index now k v inside c.index_mut.ensures.value) in
    record {
      at = (
        table_at c.self.inside.tables.items old k v c.index.result.now (c.requires.at.0 ∙ sym c.self.view_is) v_at c.index.ensures,
        table_at c.self.inside.tables.items end k u c.index.result.now (c.requires.at.1 ∙ sym c.self.view_is) u_at c.index.ensures,
      );
      first = all_at (λ (s : Metered). s.names.number ≡ 1) old k v c.requires.first v_at;
    }

pub loop-place-preserved : goal.loop-place-preserved
loop-place-preserved c =
    let k = c.loop-place.vm in let old = c.args.places.now.items in let end = c.args.ended.items in let now = c.loop-place.places.items in
    let i = c.loop-place.invariant in let v = c.index_mut.result.now in let u = c.in-Some.place in
    let steps = c.in-Some.ensures.steps in
    let u_at : get_elem? end k ≡ some u = ap (get_elem? end) i.4 ∙ next_member c.loop-place.yielded _ _ end u i.3 steps.0 in
    let inside : k < length now = let a = at_below end k u u_at in let b = i.5.as_many in let d = as_long c.args.self.now old end c.requires.at.0 c.requires.at.1 in omega arith in
    let v_at = at_index now k v inside c.index_mut.ensures.value in (
      tt,
      tt,
      (let a = i.2 in let b = ap length steps.0 in let d = steps.1 in omega arith),
      append_assoc c.loop-place.yielded (u ∷ []) (into_iter_items c.next.new.self) ∙ (ap (λ l. c.loop-place.yielded ++ l) (sym steps.0) ∙ i.3),
      ap (λ n. n + 1) i.4 ∙ sym (length-append c.loop-place.yielded (u ∷ [])),
      joined_next k old end now v u c.join.new.place i.5 v_at u_at c.join.ensures,
    )

pub returns : goal.returns
returns c =
    let i = c.loop-place.invariant in let end = c.args.ended.items in
    let all : length end ≤ c.loop-place.vm = let a = i.2 in let b = i.4 in let d = c.in-None.ensures.steps.0 in let e = ap length i.3 in let f = length-append c.loop-place.yielded (into_iter_items c.loop-place.place-iterator) in omega arith in
    record { as_many = i.5.as_many; each = λ vm v u w p q r. i.5.done vm v u w (let a = at_below end vm u q in omega arith) p q r }
