use Rattle.std.proofs.Common.{arith, rules, ◌≡◌, ◌+◌, ◌∷◌, [], ◌++◌, List, length, ap, sym, subst, ◌∙◌, append_assoc, length-append}
use Rattle.std.specs.Vec.Iter.{into_iter_items, into_iter_len}
use Rattle.atomic_table.proofs.Lists.{at_index}
use Rattle.turn_table.specs.Seats.{Seated, TurnTableId}
use Rattle.metric_seats.specs.Places.{Metered, MetricTableId}
use Rattle.shared_store.specs.Tables as store
use Rattle.shared_seats.specs.Places.{AllJoined, ArePlaces, MetricsAreNumbered}
use Rattle.shared_seats.specs.Seats.{SeatsOf, TablesOf}
use Rattle.shared_seats.proofs.Lists.{all_of, next_but_first, left_of_first}
use Rattle.shared_seats.proofs.Gathering.{Gathered, SeatsGathered, all_shut, gather_none, gather_more, gathered_all, seats_none, seats_more, seats_all}
use Rattle.shared_seats.proofs.tables.Tables.shut.Goals as goal

pub loop-list-init : goal.loop-list-init
loop-list-init c =
    let it = c.into_iter-list-iterator.result in
    let lists = c.args.lists.items in
    let long : length (into_iter_items it) ≡ into_iter_len it = search rules in
    let at = at_index lists 0 c.remove.result c.requires.not_empty c.remove.ensures.value in (
      tt,
      tt,
      long,
      c.into_iter-list-iterator.ensures.into_iter_gives.0 ∙ c.remove.ensures.items,
      subst (SeatsGathered c.args.self.stores lists 0) (sym (ap (λ (s : SeatsOf). s.stores) c.seats.view_is)) (seats_none c.args.self lists c.remove.result c.requires at),
      subst (Gathered c.args.self.metrics lists 0) (sym (ap (λ (s : SeatsOf). s.metrics) c.seats.view_is)) (gather_none c.args.self lists c.remove.result c.requires at),
    )

pub join-requires-clause-at : goal.join-requires-clause-at
join-requires-clause-at c =
    let i = c.loop-list.invariant in let lists = c.args.lists.items in let l = c.in-Some.list in
    let at = next_but_first lists c.loop-list.yielded _ _ l c.requires.not_empty i.3 c.in-Some.ensures.steps.0 in
    let tables = sym (ap (λ (t : TablesOf). t.stores) c.self.view_is) in (
      subst (λ (t : List TurnTableId). store.AreAt t c.loop-list.seats.items) tables i.4.at,
      subst (λ (t : List TurnTableId). store.AreAt t c.list.inside.stores.items) tables
          (subst (store.AreAt c.args.self.stores) (sym (ap (λ (s : SeatsOf). s.stores) c.list.view_is)) (c.requires.each _ l at).0.stores),
    )

pub join-requires-clause-first : goal.join-requires-clause-first
join-requires-clause-first c = all_of (λ (v : Seated). v.number ≡ 1) c.loop-list.seats.items (λ vm v at. (c.loop-list.invariant.4.each vm v at).number)

pub join-requires-in-loop-list-clause-at : goal.join-requires-in-loop-list-clause-at
join-requires-in-loop-list-clause-at c =
    let i = c.loop-list.invariant in let lists = c.args.lists.items in let l = c.in-Some.list in
    let at = next_but_first lists c.loop-list.yielded _ _ l c.requires.not_empty i.3 c.in-Some.ensures.steps.0 in
    let tables = sym (ap (λ (t : TablesOf). t.metrics) c.self.view_is) in (
      subst (λ (t : List MetricTableId). ArePlaces t c.loop-list.places.items) tables i.5.at,
      subst (λ (t : List MetricTableId). ArePlaces t c.list.inside.metrics.items) tables
          (subst (ArePlaces c.args.self.metrics) (sym (ap (λ (s : SeatsOf). s.metrics) c.list.view_is)) (c.requires.each _ l at).0.metrics.places),
    )

pub join-requires-in-loop-list-clause-first : goal.join-requires-in-loop-list-clause-first
join-requires-in-loop-list-clause-first c = all_of (λ (v : Metered). v.names.number ≡ 1) c.loop-list.places.items (λ vm v at. (c.loop-list.invariant.5.each vm v at).number)

pub loop-list-preserved : goal.loop-list-preserved
loop-list-preserved c =
    let i = c.loop-list.invariant in let lists = c.args.lists.items in let l = c.in-Some.list in let before = c.loop-list.yielded in
    let steps = c.in-Some.ensures.steps in
    let at = next_but_first lists before _ _ l c.requires.not_empty i.3 steps.0 in
    let more = length-append before (l ∷ []) in (
      tt,
      tt,
      (let a = i.2 in let b = ap length steps.0 in let d = steps.1 in omega arith),
      append_assoc before (l ∷ []) (into_iter_items c.next.new.self) ∙ (ap (λ x. before ++ x) (sym steps.0) ∙ i.3),
      subst (λ n. SeatsGathered c.args.self.stores lists n c.join.new.seats.items) (sym more)
          (seats_more c.args.self lists (length before) c.loop-list.seats.items c.join.new.seats.items l c.requires at i.4
          (subst (λ (p : List Seated). store.SeatsJoined c.loop-list.seats.items p c.join.new.seats.items) (ap (λ (s : SeatsOf). s.stores) c.list.view_is) c.join.ensures)),
      subst (λ n. Gathered c.args.self.metrics lists n c.join-in-loop-list.new.places.items) (sym more)
          (gather_more c.args.self lists (length before) c.loop-list.places.items c.join-in-loop-list.new.places.items l c.requires at i.5
          (subst (λ (p : List Metered). AllJoined c.loop-list.places.items p c.join-in-loop-list.new.places.items) (ap (λ (s : SeatsOf). s.metrics) c.list.view_is) c.join-in-loop-list.ensures)),
    )

pub close-requires-clause-first : goal.close-requires-clause-first
close-requires-clause-first c =
    let i = c.loop-list.invariant in let lists = c.args.lists.items in let before = c.loop-list.yielded in
    let all : length before + 1 ≡ length lists =
    let a = i.2 in let b = c.in-None.ensures.steps.0 in let d = ap length i.3 in let e = length-append before (into_iter_items c.loop-list.list-iterator) in let f = left_of_first lists c.requires.not_empty in omega arith in
    seats_all c.args.self lists (length before) c.loop-list.seats.items c.requires all i.4

pub close-requires-2-clause-first : goal.close-requires-2-clause-first
close-requires-2-clause-first c =
    let i = c.loop-list.invariant in let lists = c.args.lists.items in let before = c.loop-list.yielded in
    let all : length before + 1 ≡ length lists =
    let a = i.2 in let b = c.in-None.ensures.steps.0 in let d = ap length i.3 in let e = length-append before (into_iter_items c.loop-list.list-iterator) in let f = left_of_first lists c.requires.not_empty in omega arith in
    gathered_all c.args.self lists (length before) c.loop-list.places.items c.requires all i.5

pub returns : goal.returns
returns c =
    let i = c.loop-list.invariant in let lists = c.args.lists.items in let before = c.loop-list.yielded in let tables = c.self.view_is in
    let all : length before + 1 ≡ length lists =
    let a = i.2 in let b = c.in-None.ensures.steps.0 in let d = ap length i.3 in let e = length-append before (into_iter_items c.loop-list.list-iterator) in let f = left_of_first lists c.requires.not_empty in omega arith in
    all_shut c.args.self lists (length before) c.loop-list.seats.items c.loop-list.places.items (record { stores = c.close.result; metrics = c.close-2.result.items }) c.requires all
    (subst store.AreNumbered (ap (λ (t : TablesOf). t.stores) tables) c.close.ensures.numbered)
    i.4
    c.close.ensures.closed
    (subst MetricsAreNumbered (ap (λ (t : TablesOf). t.metrics) tables) c.close-2.ensures.numbered)
    i.5
    c.close-2.ensures.closed
