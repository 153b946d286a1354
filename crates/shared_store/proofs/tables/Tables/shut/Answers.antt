use Rattle.std.proofs.Common.{arith, rules, ◌≡◌, ◌+◌, ◌∷◌, [], ◌++◌, length, ap, sym, subst, ◌∙◌, append_assoc, length-append}
use Rattle.std.specs.Vec.Iter.{into_iter_items, into_iter_len}
use Rattle.shared_store.proofs.Gathering.{Gathered, gather_none, gather_more, gathered_all, gathered_shut, next_list, first_list, left_of_first}
use Rattle.shared_store.proofs.Laws.{all_seats}
use Rattle.shared_store.proofs.tables.Tables.shut.Goals as goal

pub join-requires-clause-at : goal.join-requires-clause-at
join-requires-clause-at c =
    let i = c.loop-seats.invariant in let lists = c.args.lists.items in let l = c.in-Some.seats in
    let at = next_list lists c.loop-seats.yielded _ _ l c.requires.not_empty i.3 c.in-Some.ensures.steps.0 in
    (i.4.at, (c.requires.each _ l at).0)

pub join-requires-clause-first : goal.join-requires-clause-first
join-requires-clause-first c = all_seats (λ s. s.number ≡ 1) c.loop-seats.first.items (λ vm v at. (c.loop-seats.invariant.4.each vm v at).number)

pub loop-seats-init : goal.loop-seats-init
loop-seats-init c =
    let it = c.into_iter-seats-iterator.result in
    let long : length (into_iter_items it) ≡ into_iter_len it = search rules in (
      tt,
      tt,
      long,
      c.into_iter-seats-iterator.ensures.into_iter_gives.0 ∙ c.remove-first.ensures.items,
      gather_none c.args.self c.args.lists.items c.remove-first.result c.requires (first_list c.args.lists.items c.remove-first.result c.requires.not_empty c.remove-first.ensures.value),
    )

pub loop-seats-preserved : goal.loop-seats-preserved
loop-seats-preserved c =
    let i = c.loop-seats.invariant in let lists = c.args.lists.items in let l = c.in-Some.seats in let before = c.loop-seats.yielded in
    let steps = c.in-Some.ensures.steps in
    let at = next_list lists before _ _ l c.requires.not_empty i.3 steps.0 in (
      tt,
      tt,
      (let a = i.2 in let b = ap length steps.0 in let d = steps.1 in omega arith),
      append_assoc before (l ∷ []) (into_iter_items c.next.new.self) ∙ (ap (λ x. before ++ x) (sym steps.0) ∙ i.3),
      subst (λ n. Gathered c.args.self lists n c.join.new.seats.items) (sym (length-append before (l ∷ [])))
          (gather_more c.args.self lists (length before) c.loop-seats.first.items c.join.new.seats.items l c.requires at i.4 c.join.ensures),
    )

pub close-requires-clause-at : goal.close-requires-clause-at
close-requires-clause-at c = c.loop-seats.invariant.4.at

pub close-requires-clause-first : goal.close-requires-clause-first
close-requires-clause-first c =
    let i = c.loop-seats.invariant in let lists = c.args.lists.items in let before = c.loop-seats.yielded in
    let all : length before + 1 ≡ length lists =
    let a = i.2 in let b = c.in-None.ensures.steps.0 in let d = ap length i.3 in let e = length-append before (into_iter_items c.loop-seats.seats-iterator) in let f = left_of_first lists c.requires.not_empty in omega arith in
    gathered_all c.args.self lists (length before) c.loop-seats.first.items c.requires all i.4

pub returns : goal.returns
returns c =
    let i = c.loop-seats.invariant in let lists = c.args.lists.items in let before = c.loop-seats.yielded in
    let all : length before + 1 ≡ length lists =
    let a = i.2 in let b = c.in-None.ensures.steps.0 in let d = ap length i.3 in let e = length-append before (into_iter_items c.loop-seats.seats-iterator) in let f = left_of_first lists c.requires.not_empty in omega arith in
    gathered_shut c.args.self lists (length before) c.loop-seats.first.items c.close.result c.close.ensures.numbered c.requires all i.4 c.close.ensures.closed
