use Rattle.std.proofs.Common.{arith, ◌<◌, ◌≤◌, [], ◌∷◌, ◌++◌, length, map, set, take, ap, sym, ◌∙◌, add-one}
use Rattle.metric_seats.specs.Places.{next_place}
use Rattle.shared_seats.specs.Places.{MayGive, after_giving}
use Rattle.shared_seats.proofs.Lists.{below, below_member, below_next, below_all, taken_more, all_at}
use Rattle.shared_seats.proofs.Rows.{table_at}
use Rattle.shared_seats.proofs.metrics.MetricTables.split.Goals as goal

pub split-requires : goal.split-requires
split-requires c =
    let k = c.loop-vm.vm in let old = c.args.places.now.items in let v = c.index_mut.result.now in
    let inside : k < length old = let a = c.loop-vm-test.true in let b = c.len-vm-end.ensures in let d = c.args.places.now.ok.0 in omega arith in
    let at = below_member after_giving old c.loop-vm.places.items k v c.loop-vm.invariant.0 inside c.index_mut.ensures.value in
    let may = all_at MayGive old k v c.requires.first at in
    record {
      at = table_at c.self.inside.tables.items old k v c.index.result.now (c.requires.at ∙ sym c.self.view_is) at c.index.ensures;
      first = (may.first, may.room);
      none = may.none;
    }

pub loop-vm-preserved : goal.loop-vm-preserved
loop-vm-preserved c =
    let k = c.loop-vm.vm in let old = c.args.places.now.items in let v = c.index_mut.result.now in let i = c.loop-vm.invariant in
    let inside : k < length old = let a = c.loop-vm-test.true in let b = c.len-vm-end.ensures in let d = c.args.places.now.ok.0 in omega arith in
    let at = below_member after_giving old c.loop-vm.places.items k v i.0 inside c.index_mut.ensures.value in (
      ap (λ s. set c.loop-vm.places.items k s) c.in_ok-place.ensures.kept ∙ (ap (λ l. set l k (after_giving v)) i.0 ∙ (below_next after_giving old k v at ∙ ap (λ n. below after_giving n old) (sym (add-one k)))),
      c.in_ok-push.ensures.items ∙ ((λ j. i.1 j ++ c.in_ok-place.ensures.next j ∷ []) ∙ (sym (taken_more next_place old k v at) ∙ ap (λ n. map next_place (take n old)) (sym (add-one k)))),
      (let a = i.2 in let b = c.in_ok-push.ensures.capacity in omega arith),
    )

pub returns-clause-kept : goal.returns-clause-kept
returns-clause-kept c =
    let k = c.loop-vm.vm in let old = c.args.places.now.items in
    let long : length old ≤ k = let a = c.loop-vm-test.false in let b = c.len-vm-end.ensures in let d = c.args.places.now.ok.0 in omega arith in
    c.loop-vm.invariant.0 ∙ below_all after_giving old k long
