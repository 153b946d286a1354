use Rattle.std.proofs.Common.{arith, ◌≡◌, ◌+◌, ◌<◌, suc, [], ◌∷◌, ◌++◌, All, map, length, ap, sym, subst, ◌∙◌, append_assoc, length-append}
use Rattle.std.specs.Vec.Iter.{into_iter_items}
use mathlib.Core.Option.{some}
use lib.ListN.{get_elem?}
use Rattle.shared_seats.specs.Places.{ArePlaces, MayGive, after_split, new_place, next_places}
use Rattle.shared_seats.specs.Seats.{SeatsOf}
use Rattle.shared_seats.proofs.Gathering.{OthersBeside, new_places_at, others_more, places_given, places_may_give, places_next}
use Rattle.shared_seats.proofs.Lists.{left_of_first, next_but_first}
use Rattle.shared_seats.proofs.making.seat_lists.Goals as goal

pub split-requires-clause-at : goal.split-requires-clause-at
split-requires-clause-at c = let n = length c.loop-further.yielded + 1 in
    subst (ArePlaces c.args.tables.now) (sym c.loop-further.invariant.5) (new_places_at 1 n c.args.tables.now)

pub split-requires-clause-first : goal.split-requires-clause-first
split-requires-clause-first c =
    let i = c.loop-further.invariant in let before = c.loop-further.yielded in let seats = c.args.seats.items in
    let few : length before + 1 < 8 =
    let a = ap length c.in-Some.ensures.steps.0 in let b = length-append before (into_iter_items c.loop-further.further-iterator) in let d = ap length i.3 in let e = left_of_first seats (let one = c.requires.seats.0 in omega arith) in let f = c.requires.seats.1 in omega arith in
    subst (All MayGive) (sym i.5) (places_may_give (length before + 1) c.args.tables.now few)

pub loop-further-preserved : goal.loop-further-preserved
loop-further-preserved c =
    let i = c.loop-further.invariant in let before = c.loop-further.yielded in let seats = c.args.seats.items in let tables = c.args.tables.now in
    let l = c.in-Some.further in let steps = c.in-Some.ensures.steps in let n = length before in
    let more = length-append before (l ∷ []) in
    let now = c.loop-further.lists.items in let one = c.requires.seats.0 in
    let at : get_elem? seats (suc (length now)) ≡ some l = ap (λ k. get_elem? seats (suc k)) i.4 ∙ next_but_first seats before _ _ l (omega arith) i.3 steps.0 in
    let places : c.in_ok-metrics.metrics.items ≡ map (new_place (length now + 2) 0) tables =
    c.in_ok-metrics.ensures.next ∙ (ap next_places i.5 ∙ (places_next (n + 1) tables ∙ ap (λ k. map (new_place k 0) tables) (let h = i.4 in let e : n + 1 + 1 ≡ length now + 2 = omega arith in e))) in
    let last : SeatsOf = record { stores = l.items; metrics = c.in_ok-metrics.metrics.items } in (
      tt,
      tt,
      (let a = i.2 in let b = ap length steps.0 in let d = steps.1 in omega arith),
      append_assoc before (l ∷ []) (into_iter_items c.next.new.self) ∙ (ap (λ x. before ++ x) (sym steps.0) ∙ i.3),
      ap length c.in_ok-push.ensures.items ∙ (length-append now (last ∷ []) ∙ (ap (λ k. k + 1) i.4 ∙ sym more)),
      c.in_ok-metrics.ensures.kept ∙ (ap after_split i.5 ∙ (places_given (n + 1) tables ∙ ap (λ k. map (new_place 1 (k + 1)) tables) (sym more))),
      subst (OthersBeside tables seats) (sym c.in_ok-push.ensures.items) (others_more tables seats now l last i.6 at (λ j. record { stores = l.items; metrics = places j })),
    )
