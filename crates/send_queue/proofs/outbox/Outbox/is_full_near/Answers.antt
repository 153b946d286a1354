use Rattle.std.proofs.Common.{ℕ, Bool, ◌≡◌, ◌≤◌, ◌<◌, ◌-◌, List, ap, sym, ◌∙◌, subst, arith, drop, take, length}
use Rattle.std.specs.Prelude.{IsTrue}
use Rattle.std.proofs.lemmas.List.{take_all, length-drop}
use Rattle.gate_io.specs.declared.event.Sent.{Sent}
use Rattle.send_queue.specs.Places.{Mark, octets_in, marks_at}
use Rattle.send_queue.specs.Sorted.{rank, AreUpTo}
use Rattle.send_queue.specs.declared.place.Destination.{Destination}
use Rattle.send_queue.specs.declared.place.Destination.TheVariants.{Peer}
use Rattle.send_queue.proofs.Sorting.{rank-peer, marks_at-from}
use Rattle.send_queue.proofs.outbox.Outbox.is_full_near.Goals as goal

-- so many bytes among marks, exactly where this is true
abbrev Says : Bool → List Mark → Type 0
Says full marks = (IsTrue full → 65536 ≤ octets_in marks) × (65536 ≤ octets_in marks → IsTrue full)

-- what is of a lower rank puts nothing at the place
said : (place : Destination) (most : ℕ) (waiting all again : List Sent) (first : ℕ) (full : Bool) → most < rank place → all ≡ waiting → all ≡ again → AreUpTo most (take first all)
    → Says full (marks_at place (take (length again - first) (drop first again))) → Says full (marks_at place waiting)
said place most waiting all again first full lower is same up_to says =
    let rest : take (length again - first) (drop first again) ≡ drop first again = let l = length-drop first again in take_all (length again - first) (drop first again) (omega (arith, l)) in
    let whole : marks_at place waiting ≡ marks_at place (take (length again - first) (drop first again)) =
    ap (marks_at place) (sym is) ∙ marks_at-from place most all first lower up_to ∙ ap (λ (l : List Sent). marks_at place (drop first l)) same ∙ ap (marks_at place) (sym rest) in
    subst (λ (m : List Mark). Says full m) (sym whole) says

pub returns-then-full : goal.returns-then-full
returns-then-full c =
    said (Peer c.args.line c.args.side) (c.rank.result - 1) c.args.self.now c.deref-2.result.now c.deref-3.result.now c.end_near-first.result c.is_full_from-full.result
    (let some = rank-peer c.args.line c.args.side in omega (arith, some, c.rank.ensures)) (c.deref-2.ensures.value ∙ c.self.view_is) (c.deref-2.ensures.value ∙ sym c.deref-3.ensures.value)
    c.end_near-first.ensures.up_to c.is_full_from-full.ensures

pub returns-else-full : goal.returns-else-full
returns-else-full c =
    said (Peer c.args.line c.args.side) (c.rank.result - 1) c.args.self.now c.deref-2.result.now c.deref-3.result.now c.end_near-first.result c.is_full_from-full.result
    (let some = rank-peer c.args.line c.args.side in omega (arith, some, c.rank.ensures)) (c.deref-2.ensures.value ∙ c.self.view_is) (c.deref-2.ensures.value ∙ sym c.deref-3.ensures.value)
    c.end_near-first.ensures.up_to c.is_full_from-full.ensures
