use Rattle.std.proofs.Common.{arith, ◌≡◌, ◌+◌, ◌<◌, List, ◌∷◌, [], All, map, length, ap, sym, subst, ◌∙◌, length-append}
use Rattle.turn_table.specs.Seats.{Seated, TurnTableId}
use Rattle.shared_store.specs.Tables.{AreAt, after_split, next_seats}
use Rattle.shared_store.specs.Workers.{AreAll, new_seat}
use Rattle.shared_store.proofs.Gathering.{OthersAre, new_at, seats_may_split, seats_given, seats_next, others_more, lists_new, new_all, all_at_tables}
use Rattle.shared_store.proofs.tables.Tables.make.Goals as goal

pub split-requires-clause-at : goal.split-requires-clause-at
split-requires-clause-at c = let ts = c.tables.inside.tables.items in
    subst (λ (t : List TurnTableId). AreAt t c.loop.first.items) c.tables.view_is (subst (AreAt ts) (sym c.loop.invariant.1) (new_at 1 c.loop.counter ts))

pub split-requires-clause-first : goal.split-requires-clause-first
split-requires-clause-first c = let a = c.loop-test.true in let b = c.requires in
    subst (All (λ (s : Seated). (s.number ≡ 1) × (s.given < 8))) (sym c.loop.invariant.1) (seats_may_split c.loop.counter c.tables.inside.tables.items (omega arith))

pub loop-preserved : goal.loop-preserved
loop-preserved c =
    let i = c.loop.invariant in let ts = c.tables.inside.tables.items in let l = c.in_ok-split.field-0 in
    let long : c.loop.counter + 1 ≡ length c.loop.lists.items + 2 = let e = i.0 in omega arith in (
      (let a = ap length c.in_ok-push.ensures.items in let b = length-append c.loop.lists.items (l ∷ []) in let d = i.0 in omega arith),
      c.in_ok-split.ensures.kept ∙ (ap after_split i.1 ∙ seats_given c.loop.counter ts),
      subst (OthersAre ts) (sym c.in_ok-push.ensures.items) (others_more ts c.loop.lists.items l i.2 (c.in_ok-split.ensures.next ∙ (ap next_seats i.1 ∙ (seats_next c.loop.counter ts ∙ ap (λ n. map (new_seat n 0) ts) long)))),
    )

-- all lists, in their order
made : (c : goal.In_ok-insert) → AreAll c.in_ok-tables.tables c.insert.new.self.items
made c =
    let i = c.loop.invariant in let ts = c.tables.inside.tables.items in
    let all : c.loop.counter ≡ c.args.workers = let a = c.loop-test.false in let b = c.loop.auto.counter in let d = c.requires in omega arith in
    let new = lists_new ts c.args.workers c.loop.first c.loop.lists.items (i.0 ∙ all) (i.1 ∙ ap (λ n. map (new_seat 1 n) ts) all) i.2 in
    subst (λ (t : List TurnTableId). AreAll t c.insert.new.self.items) c.tables.view_is (subst (AreAll ts) (sym c.in_ok-insert.ensures.items) (new_all ts c.args.workers (c.loop.first ∷ c.loop.lists.items) c.requires.1 new))

pub returns-clause-at : goal.returns-clause-at
returns-clause-at c = all_at_tables c.in_ok-tables.tables c.insert.new.self.items (made c)

pub returns-clause-all : goal.returns-clause-all
returns-clause-all c = made c
