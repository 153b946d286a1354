use Rattle.std.proofs.Common.{ℕ, ◌≡◌, ◌<◌, ◌-◌, suc, length, take, subst, arith}
use Rattle.std.proofs.lemmas.Bool.{OnTrue_from, leb-true}
use Rattle.send_queue.specs.Sorted.{AreUpTo}
use Rattle.send_queue.proofs.Sorting.{up_to_through}
use Rattle.send_queue.proofs.sorted.are_up_to.Goals as goal

-- the last of them is of this rank or a lower one
pub returns-clause-up_to : goal.returns-clause-up_to
returns-clause-up_to c = OnTrue_from _ _ (λ low.
    let members = c.args.members.now in
    let at = c.args.at - 1 in
    let below : at < length members = let some = c.if-at-eq0.false in let within = c.if-at-members.false in omega (arith, some, within) in
    let next : suc at ≡ c.args.at = let some = c.if-at-eq0.false in omega (arith, some) in
    let most = leb-true _ _ low in
    subst (λ (n : ℕ). AreUpTo c.args.most (take n members)) next
    (up_to_through c.args.most 0 members at c.index-members-at.result below c.index-members-at.is c.requires (let same = c.rank_of.ensures in omega (arith, same, most))))
