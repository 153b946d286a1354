use Rattle.std.proofs.Common.{ℕ, suc, ◌+◌, ◌-◌, ◌≡◌, ◌<◌, length, drop, set, sym, ◌∙◌, ap, subst, arith, true}
use Rattle.std.specs.List.{insert, remove}
use Rattle.std.proofs.lemmas.List.{get_or_default}
use Rattle.gate_io.specs.declared.event.Sent.{Sent}
use Rattle.send_queue.specs.Joined.{are_one, as_one}
use Rattle.send_queue.specs.Places.{marks_at}
use Rattle.send_queue.specs.Sorted.{rank_of, IsSorted, IsSortedFrom}
use Rattle.send_queue.proofs.Holding.{insert_removed}
use Rattle.send_queue.proofs.Sorting.{marks_at-insert, sorted-insert, marks_at-join, sorted-join, is_filled}
use Rattle.send_queue.proofs.sorted.put_behind.Goals as goal

-- the bytes are joined with the last of their place
pub returns-then-are_one-clause-behind : goal.returns-then-are_one-clause-behind
returns-then-are_one-clause-behind c = λ place.
    let members = c.args.members.now.items in
    let member = c.args.member in
    let at = c.args.end - 1 in
    let was = c.index_mut.result.now in
    let below : at < length members = let w = c.requires.end.within in omega (arith, w, c.if-end-gt0.true) in
    let last : was ≡ c.index.result.now = c.index_mut.ensures.value ∙ get_or_default members at was c.index.result.now below ∙ sym c.index.ensures in
    let equal : are_one was member ≡ true = ap (λ (s : Sent). are_one s member) last ∙ sym c.are_one.ensures ∙ c.if-are_one.true in
    let next : c.args.end ≡ suc at = let some = c.if-end-gt0.true in omega (arith, some) in
    let joined : set members at c.join.new.first ≡ insert (remove members at) at (as_one was member) =
    ap (λ (s : Sent). set members at s) c.in_ok-join.ensures ∙ sym (insert_removed members at (as_one was member) below) in
    ap (marks_at place) joined
    ∙ marks_at-join place members at was member below c.index_mut.ensures.value equal (subst (λ (n : ℕ). IsSortedFrom (rank_of member + 1) (drop n members)) next c.requires.end.above)

pub returns-then-are_one-clause-sorted : goal.returns-then-are_one-clause-sorted
returns-then-are_one-clause-sorted c =
    let members = c.args.members.now.items in
    let at = c.args.end - 1 in
    let was = c.index_mut.result.now in
    let below : at < length members = let w = c.requires.end.within in omega (arith, w, c.if-end-gt0.true) in
    let joined : set members at c.join.new.first ≡ insert (remove members at) at (as_one was c.args.member) =
    ap (λ (s : Sent). set members at s) c.in_ok-join.ensures ∙ sym (insert_removed members at (as_one was c.args.member) below) in
    subst IsSorted (sym joined) (sorted-join 0 members at was c.args.member below c.index_mut.ensures.value c.requires.sorted)

-- the member stands at the end of those up to its rank
pub returns-clause-behind : goal.returns-clause-behind
returns-clause-behind c = λ place.
    ap (marks_at place) c.in_ok-insert.ensures.items ∙ marks_at-insert place c.args.members.now.items c.args.end c.args.member c.requires.end.above

pub returns-clause-sorted : goal.returns-clause-sorted
returns-clause-sorted c =
    subst IsSorted (sym c.in_ok-insert.ensures.items)
    (sorted-insert 0 c.args.members.now.items c.args.end c.args.member (omega arith) (is_filled c.args.member (c.if-is_empty.ensures.some)) c.requires.sorted c.requires.end.up_to c.requires.end.above)
