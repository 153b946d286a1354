use Rattle.std.proofs.Common.{◌≡◌, ◌-◌, ◌<◌, true, length, sym, subst, arith, rules}
use Rattle.std.proofs.lemmas.Bool.Decides.{nat_tests}
use Rattle.h1_model.specs.Messages.{Due, body, counted}
use Rattle.h1_model.specs.Unread.{piece, part, IsNext}
use Rattle.h1_stream.specs.Seen.{asked_of, seen_next}
use Rattle.h1_stream.proofs.Bodies.{counted_whole, counted_part}
use Rattle.h1_stream.proofs.body.counted_next.Goals as goal

pub returns-then-left-eq0-2-clause-next : goal.returns-then-left-eq0-2-clause-next
returns-then-left-eq0-2-clause-next c =
    let none_left : c.args.left - c.piece_len-len.result ≡ 0 = search rules in
    let some : 0 < length c.args.text.now = grind (arith, nat_tests) in
    let next = counted_whole c.args.ended (asked_of c.args.kind) c.args.left c.piece_len-len.result c.args.text.now c.in_ok-bytes.bytes c.piece_len-len.ensures c.in_ok-bytes.ensures (omega arith) some none_left in
    let moved = subst (λ (d : Due). IsNext c.args.ended (asked_of c.args.kind) (body (counted c.args.left)) c.args.text.now (part (piece c.in_ok-bytes.bytes true) c.piece_len-len.result d)) (sym c.due_next-then-left-eq0-2.ensures) next in
    subst (λ n. IsNext c.args.ended (asked_of c.args.kind) (body (counted c.args.left)) c.args.text.now (seen_next (body (counted c.args.left)) n)) (sym c.piece-then-left-eq0-2.ensures) moved

pub returns-else-left-eq0-2-clause-next : goal.returns-else-left-eq0-2-clause-next
returns-else-left-eq0-2-clause-next c =
    let left : 0 < c.args.left - c.piece_len-len.result = omega arith in
    let some : 0 < length c.args.text.now = grind (arith, nat_tests) in
    let next = counted_part c.args.ended (asked_of c.args.kind) c.args.left c.piece_len-len.result c.args.text.now c.in_ok-bytes.bytes c.piece_len-len.ensures c.in_ok-bytes.ensures (omega arith) some left in
    subst (λ n. IsNext c.args.ended (asked_of c.args.kind) (body (counted c.args.left)) c.args.text.now (seen_next (body (counted c.args.left)) n)) (sym c.piece-else-left-eq0-2.ensures) next
