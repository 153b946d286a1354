use Rattle.std.proofs.Common.{arith, ◌≡◌, ◌<◌, ◌≤◌, [], ◌∷◌, ◌++◌, length, map, set, take, ap, sym, ◌∙◌, add-one}
use Rattle.turn_table.specs.Seats.{Seated, next_seat}
use Rattle.shared_store.specs.Tables.{after_giving}
use Rattle.shared_store.proofs.Rows.{below, below_member, below_next, below_all, taken_more, table_at, all_at}
use Rattle.shared_store.proofs.tables.Tables.split.Goals as goal

pub split-requires : goal.split-requires
split-requires c =
    let k = c.loop-vm.vm in let old = c.args.seats.now.items in let v = c.index_mut.result.now in
    let inside : k < length old = let a = c.loop-vm-test.true in let b = c.len-vm-end.ensures in let d = c.args.seats.now.ok.0 in omega arith in
    let at = below_member after_giving old c.loop-vm.seats.items k v c.loop-vm.invariant.0 inside c.index_mut.ensures.value in
    let first = all_at (λ (s : Seated). (s.number ≡ 1) × (s.given < 8)) old k v c.requires.first at in
    (table_at c.self.inside.tables.items old k v c.index.result.now (c.requires.at ∙ sym c.self.view_is) at c.index.ensures, first.0, first.1)

pub loop-vm-preserved : goal.loop-vm-preserved
loop-vm-preserved c =
    let k = c.loop-vm.vm in let old = c.args.seats.now.items in let v = c.index_mut.result.now in let i = c.loop-vm.invariant in
    let inside : k < length old = let a = c.loop-vm-test.true in let b = c.len-vm-end.ensures in let d = c.args.seats.now.ok.0 in omega arith in
    let at = below_member after_giving old c.loop-vm.seats.items k v i.0 inside c.index_mut.ensures.value in (
      ap (λ s. set c.loop-vm.seats.items k s) c.in_ok-seat.ensures.kept ∙ (ap (λ l. set l k (after_giving v)) i.0 ∙ (below_next after_giving old k v at ∙ ap (λ n. below after_giving n old) (sym (add-one k)))),
      c.in_ok-push.ensures.items ∙ ((λ j. i.1 j ++ c.in_ok-seat.ensures.next j ∷ []) ∙ (sym (taken_more next_seat old k v at) ∙ ap (λ n. map next_seat (take n old)) (sym (add-one k)))),
      (let a = i.2 in let b = c.in_ok-push.ensures.capacity in omega arith),
    )

pub returns-clause-kept : goal.returns-clause-kept
returns-clause-kept c =
    let k = c.loop-vm.vm in let old = c.args.seats.now.items in
    let long : length old ≤ k = let a = c.loop-vm-test.false in let b = c.len-vm-end.ensures in let d = c.args.seats.now.ok.0 in omega arith in
    c.loop-vm.invariant.0 ∙ below_all after_giving old k long
