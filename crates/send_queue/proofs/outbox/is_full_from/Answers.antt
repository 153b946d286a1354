use Rattle.std.proofs.Common.{◌≡◌, ◌<◌, ◌≤◌, ap, arith, refl, drop}
use Rattle.send_queue.specs.Places.{octets_in, marks_at}
use Rattle.send_queue.specs.Sorted.{rank, rank_of}
use Rattle.send_queue.proofs.Sorting.{nothing_more, octets_next}
use Rattle.send_queue.proofs.outbox.is_full_from.Goals as goal

-- a member of a higher rank has none for the place after it
pub returns-then-rank_of-most : goal.returns-then-rank_of-most
returns-then-rank_of-most c =
    let place = c.args.place.now in
    let over : rank place < rank_of c.member-item.result = omega (arith, c.if-rank_of-most.true, c.rank-most.ensures, c.rank_of.ensures) in
    let none = nothing_more place c.args.members.now c.loop-member.member-index c.member-item.result c.loop-member-test.true c.member-item.is c.requires over in
    let left : octets_in (marks_at place (drop c.loop-member.member-index c.args.members.now)) ≡ 0 = ap octets_in none in
    (λ never. absurd (cc), λ full. absurd (let so_far = c.loop-member.invariant.so_far in let some = c.loop-member.invariant.some in omega (arith, so_far, some, left, full)))

pub returns-then-room-n : goal.returns-then-room-n
returns-then-room-n c =
    let place = c.args.place.now in
    let low : rank_of c.member-item.result ≤ rank place = omega (arith, c.if-rank_of-most.false, c.rank-most.ensures, c.rank_of.ensures) in
    let more = octets_next place c.args.members.now c.loop-member.member-index c.member-item.result c.loop-member-test.true c.member-item.is c.requires low in
    (λ t. omega (arith, more), λ full. refl)

pub loop-member-preserved : goal.loop-member-preserved
loop-member-preserved c =
    let place = c.args.place.now in
    let low : rank_of c.member-item.result ≤ rank place = omega (arith, c.if-rank_of-most.false, c.rank-most.ensures, c.rank_of.ensures) in
    let more = octets_next place c.args.members.now c.loop-member.member-index c.member-item.result c.loop-member-test.true c.member-item.is c.requires low in
    record { some = omega arith; so_far = omega (arith, more) }
