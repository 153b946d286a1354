use Rattle.std.proofs.Common.{◌≡◌, ◌<◌, ◌+◌, ◌∙◌, ℕ, List, [], ◌∷◌, ◌++◌, Option, Ok, length, take, set, get_or, sym, ap, subst}
use Rattle.std.specs.Prelude.{IfSome}
use Rattle.std.specs.declared.alloc.AllocError.{AllocError}
use Rattle.std.proofs.lemmas.List.{take_more, take_more_set, get_or_default}
use Rattle.std.proofs.lemmas.Result.{IfOk-from_err}
use Rattle.gate_io.specs.declared.event.Sent.{Sent}
use Rattle.send_queue.specs.Delivery.{IsFilled, Offered}
use Rattle.send_queue.specs.Places.{place_of, marks_at, marks_of}
use Rattle.send_queue.specs.Sorted.{rank_of, IsSorted, IsEndOf, IsBehind}
use Rattle.send_queue.specs.Taking.{rest_of, WasOffered}
use Rattle.send_queue.proofs.Marks.{marks_at-push}
use Rattle.send_queue.proofs.Offers.{offered_wait, offered_rest}
use Rattle.send_queue.proofs.Holding.{rank_of_rest}
use Rattle.send_queue.proofs.Sorting.{ends_before, sorted-take, sorted-set, sorted-remove}
use Rattle.send_queue.proofs.offer.offer_at.Goals as goal

-- one member is read twice
one : (members : List Sent) (at : ℕ) (a b : Sent) → at < length members → a ≡ get_or members at a → b ≡ get_or members at b → a ≡ b
one members at a b below first next = first ∙ get_or_default members at a b below ∙ sym next

-- those before a member, and the member
with_it : (members : List Sent) (at : ℕ) (member : Sent) → at < length members → member ≡ get_or members at member → take (at + 1) members ≡ take at members ++ member ∷ []
with_it members at member below is = take_more members at member below ∙ ap (λ (s : Sent). take at members ++ s ∷ []) (sym is)

-- nothing waits for its place among those before it
none_before : (members all : List Sent) (at : ℕ) (a b : Sent) → at < length members → a ≡ get_or members at a → b ≡ get_or members at b → all ≡ members → marks_at (place_of a) (take at all) ≡ []
    → marks_at (place_of b) (take at members) ≡ []
none_before members all at a b below first next same none = sym (λ i. marks_at (place_of (one members at a b below first next i)) (take at (same i))) ∙ none

pub waits_before-requires-clause-sorted : goal.waits_before-requires-clause-sorted
waits_before-requires-clause-sorted g c = sorted-take c.args.at.now 0 c.deref.result.now (subst IsSorted (sym c.deref.ensures.value) c.requires.sorted)

pub waits_before-requires-clause-end : goal.waits_before-requires-clause-end
waits_before-requires-clause-end g c =
    let at = c.args.at.now in
    subst (λ (n : ℕ). IsEndOf n at (take at c.deref.result.now)) (sym c.rank_of-rank.ensures)
    (subst (λ (l : List Sent). IsEndOf (rank_of c.index.result.now) at (take at l)) (sym c.deref.ensures.value) (ends_before c.args.members.now.items at c.index.result.now c.requires.within c.index.ensures c.requires.sorted))

pub returns-then-waits_before-clause-offered : goal.returns-then-waits_before-clause-offered
returns-then-waits_before-clause-offered g c =
    let whole = (g.W.World.nature c.args.world.now).takes_whole in
    let old = g.W.World.trace c.args.world.now in
    let members = c.args.members.now.items in
    let at = c.args.at.now in
    let member = c.index.result.now in
    let left = take at members in
    subst (λ (l : List Sent). Offered {E = AllocError} whole old left l (Ok tt) old l) (sym (with_it members at member c.requires.within c.index.ensures))
    (offered_wait whole old left member (left ++ member ∷ []) (Ok tt) (λ place. marks_at-push place left member)
    (λ none. c.if-waits_before.ensures.some (place_of member) (sym c.rank_of-rank.ensures) ((λ i. marks_at (place_of member) (take at (c.deref.ensures.value i))) ∙ none)))

-- memory ran out, and what is left of the member is lost
pub returns-in_err-shorten-in-Some-clause-offered : goal.returns-in_err-shorten-in-Some-clause-offered
returns-in_err-shorten-in-Some-clause-offered g c =
    let whole = (g.W.World.nature c.args.world.now).takes_whole in
    let old = g.W.World.trace c.args.world.now in
    let new = g.W.World.trace c.offer_member.new.world in
    let members = c.args.members.now.items in
    let at = c.args.at.now in
    let member = c.index-2.result.now in
    let left = take at members in
    let r = c.from_residual-in_err-shorten-in-Some.result in
    let after = take at (set members at c.shorten.new.member) in
    subst (λ (l : List Sent). Offered {E = AllocError} whole old left l r new after) (sym (with_it members at member c.requires.within c.index-2.ensures))
    (offered_rest whole old new left after member c.in-Some.n r (subst (λ (t : Option ℕ). WasOffered {E = AllocError} whole old member (Ok t) new) c.in-Some.is c.in_ok-n.ensures.offered)
    (none_before members c.deref.result.now at c.index.result.now member c.requires.within c.index.ensures c.index-2.ensures c.deref.ensures.value
    (c.if-waits_before.ensures.none (place_of c.index.result.now) (sym c.rank_of-rank.ensures)))
    (IfOk-from_err r _ c.from_residual-in_err-shorten-in-Some.ensures.0))

-- what is left of it waits in its place
pub returns-in_ok-shorten-in-Some-clause-offered : goal.returns-in_ok-shorten-in-Some-clause-offered
returns-in_ok-shorten-in-Some-clause-offered g c =
    let whole = (g.W.World.nature c.args.world.now).takes_whole in
    let old = g.W.World.trace c.args.world.now in
    let new = g.W.World.trace c.offer_member.new.world in
    let members = c.args.members.now.items in
    let at = c.args.at.now in
    let member = c.index-2.result.now in
    let left = take at members in
    let n = c.in-Some.n in
    let now = c.shorten.new.member in
    let after = take (at + 1) (set members at now) in
    let short : now ≡ rest_of n member = c.in_ok-shorten-in-Some.ensures ∙ ap (rest_of n) (one members at c.index_mut.result.now member c.requires.within c.index_mut.ensures.value c.index-2.ensures) in
    let is : IsBehind left (rest_of n member) after = λ place. ap (marks_at place) (take_more_set members at now c.requires.within) ∙ marks_at-push place left now ∙ ap (λ (s : Sent). marks_at place left ++ marks_of place s) short in
    subst (λ (l : List Sent). Offered {E = AllocError} whole old left l (Ok tt) new after) (sym (with_it members at member c.requires.within c.index-2.ensures))
    (offered_rest whole old new left after member n (Ok tt) (subst (λ (t : Option ℕ). WasOffered {E = AllocError} whole old member (Ok t) new) c.in-Some.is c.in_ok-n.ensures.offered)
    (none_before members c.deref.result.now at c.index.result.now member c.requires.within c.index.ensures c.index-2.ensures c.deref.ensures.value
    (c.if-waits_before.ensures.none (place_of c.index.result.now) (sym c.rank_of-rank.ensures))) is)

pub returns-in_ok-shorten-in-Some-clause-sorted : goal.returns-in_ok-shorten-in-Some-clause-sorted
returns-in_ok-shorten-in-Some-clause-sorted g c =
    let members = c.args.members.now.items in
    let at = c.args.at.now in
    let member = c.index-2.result.now in
    let was = c.index_mut.result.now in
    let n = c.in-Some.n in
    let filled : IsFilled (rest_of n member) = subst (λ (t : Option ℕ). IfSome t (λ n. IsFilled (rest_of n member))) c.in-Some.is c.in_ok-n.ensures.some in
    let same : rest_of n member ≡ c.shorten.new.member = ap (rest_of n) (one members at member was c.requires.within c.index-2.ensures c.index_mut.ensures.value) ∙ sym c.in_ok-shorten-in-Some.ensures in
    sorted-set 0 members at was c.shorten.new.member c.requires.within c.index_mut.ensures.value (ap rank_of c.in_ok-shorten-in-Some.ensures ∙ rank_of_rest n was) (subst IsFilled same filled) c.requires.sorted

pub returns-in-None-clause-sorted : goal.returns-in-None-clause-sorted
returns-in-None-clause-sorted g c = subst IsSorted (sym c.remove.ensures.items) (sorted-remove 0 c.args.members.now.items c.args.at.now c.requires.sorted)
