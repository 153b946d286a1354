use Rattle.std.proofs.Common.{suc, ◌-◌, ◌≡◌, length, arith}
use Rattle.send_queue.proofs.Sorting.{ends_last}
use Rattle.send_queue.proofs.sorted.end_near_last.Goals as goal

-- the last member is of a rank up to this one
pub returns-then-rank_of-most : goal.returns-then-rank_of-most
returns-then-rank_of-most c =
    let members = c.args.members.now in
    let last : suc (length members - 1) ≡ length members = let some = c.if-count-gt0.true in omega (arith, some) in
    ends_last c.args.most members (length members - 1) c.index-members-count.result last c.index-members-count.is c.requires
    (let same = c.rank_of.ensures in let low = c.if-rank_of-most.true in omega (arith, same, low))
