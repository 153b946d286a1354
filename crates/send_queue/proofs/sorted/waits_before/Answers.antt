use Rattle.std.proofs.Common.{ℕ, suc, ◌+◌, ◌-◌, ◌≡◌, ◌≢◌, ◌<◌, [], length, drop, sym, ◌∙◌, subst, arith}
use Rattle.std.proofs.lemmas.Bool.{OnTrue_from, OnFalse_from, eqb-true, eqb-false}
use Rattle.send_queue.specs.Places.{marks_at}
use Rattle.send_queue.specs.Sorted.{rank, rank_of, IsSortedFrom}
use Rattle.send_queue.specs.declared.place.Destination.{Destination}
use Rattle.send_queue.proofs.Sorting.{rank_apart, some_at, none_at, nothing_above, up_to_at}
use Rattle.send_queue.proofs.sorted.waits_before.Goals as goal

-- the last member up to the rank is of it
pub returns-then-end-gt0-clause-some : goal.returns-then-end-gt0-clause-some
returns-then-end-gt0-clause-some c = OnTrue_from _ ((place : Destination) → rank place ≡ c.args.most → marks_at place c.args.members.now ≢ []) (λ same place equal.
    some_at place 0 c.args.members.now (c.args.end - 1) c.index-members-end.result (let w = c.requires.end.within in omega (arith, w, c.if-end-gt0.true)) c.index-members-end.is c.requires.sorted
    (rank_apart _ _ (sym c.rank_of.ensures ∙ eqb-true _ _ same ∙ sym equal)))

-- or of a lower one
pub returns-then-end-gt0-clause-none : goal.returns-then-end-gt0-clause-none
returns-then-end-gt0-clause-none c = OnFalse_from _ ((place : Destination) → rank place ≡ c.args.most → marks_at place c.args.members.now ≡ []) (λ differs place equal.
    let members = c.args.members.now in
    let at = c.args.end - 1 in
    let within : at < c.args.end = omega (arith, c.if-end-gt0.true) in
    let below : at < length members = let w = c.requires.end.within in omega (arith, w, within) in
    let most = up_to_at c.args.most members c.args.end at c.index-members-end.result within below c.index-members-end.is c.requires.end.up_to in
    let lower : rank_of c.index-members-end.result < rank place =
    omega (arith, most, equal, λ (same : rank_of c.index-members-end.result ≡ c.args.most). eqb-false _ _ differs (c.rank_of.ensures ∙ same)) in
    let next : c.args.end ≡ suc at = omega (arith, within) in
    none_at place 0 members at c.index-members-end.result below c.index-members-end.is c.requires.sorted lower
    (subst (λ (n : ℕ). IsSortedFrom (rank place + 1) (drop n members)) next (subst (λ (n : ℕ). IsSortedFrom (n + 1) (drop c.args.end members)) (sym equal) c.requires.end.above)))

-- or there is none
pub returns-else-end-gt0-clause-none : goal.returns-else-end-gt0-clause-none
returns-else-end-gt0-clause-none c = OnFalse_from _ ((place : Destination) → rank place ≡ c.args.most → marks_at place c.args.members.now ≡ []) (λ none place equal.
    let zero_end : c.args.end ≡ 0 = omega (arith, c.if-end-gt0.false) in
    nothing_above place (rank place + 1) c.args.members.now (omega arith)
    (subst (λ (n : ℕ). IsSortedFrom (rank place + 1) (drop n c.args.members.now)) zero_end
    (subst (λ (n : ℕ). IsSortedFrom (n + 1) (drop c.args.end c.args.members.now)) (sym equal) c.requires.end.above)))
