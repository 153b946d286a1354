use Rattle.std.proofs.Common.{ℕ, suc, ◌+◌, ◌≡◌, take, subst, arith}
use Rattle.send_queue.specs.Sorted.{AreUpTo}
use Rattle.send_queue.proofs.Sorting.{up_to_through, ends_at}
use Rattle.send_queue.proofs.sorted.end_from.Goals as goal

-- the first of a higher rank
pub returns-then-rank_of-most : goal.returns-then-rank_of-most
returns-then-rank_of-most c =
    ends_at c.args.most c.args.members.now c.loop-end.end c.index-members-end.result (let low = c.loop-end-test.true in omega (arith, low)) c.index-members-end.is c.requires.sorted c.loop-end.invariant.up_to
    (let same = c.rank_of.ensures in let high = c.if-rank_of-most.true in omega (arith, same, high))

pub loop-end-preserved : goal.loop-end-preserved
loop-end-preserved c =
    let low = c.loop-end-test.true in
    let next : suc c.loop-end.end ≡ c.loop-end.end + 1 = omega arith in
    record {
      within = omega (arith, low);
      up_to = subst (λ (n : ℕ). AreUpTo c.args.most (take n c.args.members.now)) next
          (up_to_through c.args.most 0 c.args.members.now c.loop-end.end c.index-members-end.result (omega (arith, low)) c.index-members-end.is c.requires.sorted
          (let same = c.rank_of.ensures in let high = c.if-rank_of-most.false in omega (arith, same, high)));
    }
