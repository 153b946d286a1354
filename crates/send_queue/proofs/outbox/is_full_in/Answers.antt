use Rattle.std.proofs.Common.{arith, refl}
use Rattle.send_queue.proofs.Marks.{octets_in-drop}
use Rattle.send_queue.proofs.outbox.is_full_in.Goals as goal

pub returns-then-room-n : goal.returns-then-room-n
returns-then-room-n c =
    let more = octets_in-drop c.args.place.now c.args.members.now c.loop-member.member-index c.member-item.result c.loop-member-test.true c.member-item.is in
    (λ t. omega (arith, more), λ full. refl)

pub loop-member-preserved : goal.loop-member-preserved
loop-member-preserved c =
    let more = octets_in-drop c.args.place.now c.args.members.now c.loop-member.member-index c.member-item.result c.loop-member-test.true c.member-item.is in
    record { some = omega arith; so_far = omega (arith, more) }
