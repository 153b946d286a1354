use Rattle.std.proofs.Common.{◌<◌, Bool, true, false, length, sym, subst, arith}
use Rattle.std.proofs.lemmas.Bool.Decides.{nat_tests}
use Rattle.h1_model.specs.Messages.{Due, body, unbounded, due_next}
use Rattle.h1_model.specs.Unread.{piece, part, IsNext}
use Rattle.h1_stream.specs.Seen.{asked_of, seen_next}
use Rattle.h1_stream.proofs.Bodies.{unbounded_full, unbounded_whole, unbounded_open}
use Rattle.h1_stream.proofs.body.unbounded_next.Goals as goal

pub returns-then-len-text-clause-next : goal.returns-then-len-text-clause-next
returns-then-len-text-clause-next c =
    let some : 0 < length c.args.text.now = grind (arith, nat_tests) in
    let next = unbounded_full c.args.ended (asked_of c.args.kind) c.min-len.result c.args.text.now c.in_ok-bytes.bytes c.min-len.ensures c.in_ok-bytes.ensures some c.if-len-text.true in
    subst (λ n. IsNext c.args.ended (asked_of c.args.kind) (body unbounded) c.args.text.now (seen_next (body unbounded) n)) (sym c.piece.ensures) next

pub returns-then-ended-clause-next : goal.returns-then-ended-clause-next
returns-then-ended-clause-next c =
    let some : 0 < length c.args.text.now = grind (arith, nat_tests) in
    let next = unbounded_whole (asked_of c.args.kind) c.min-len.result c.args.text.now c.in_ok-bytes.bytes c.min-len.ensures c.in_ok-bytes.ensures some c.if-len-text.false in
    let ended = subst (λ (e : Bool). IsNext e (asked_of c.args.kind) (body unbounded) c.args.text.now (part (piece c.in_ok-bytes.bytes true) c.min-len.result (due_next (asked_of c.args.kind)))) (sym c.if-ended.true) next in
    let moved = subst (λ (d : Due). IsNext c.args.ended (asked_of c.args.kind) (body unbounded) c.args.text.now (part (piece c.in_ok-bytes.bytes true) c.min-len.result d)) (sym c.due_next.ensures) ended in
    subst (λ n. IsNext c.args.ended (asked_of c.args.kind) (body unbounded) c.args.text.now (seen_next (body unbounded) n)) (sym c.piece-then-ended.ensures) moved

pub returns-else-ended-clause-next : goal.returns-else-ended-clause-next
returns-else-ended-clause-next c =
    let some : 0 < length c.args.text.now = grind (arith, nat_tests) in
    let next = unbounded_open (asked_of c.args.kind) c.min-len.result c.args.text.now c.in_ok-bytes.bytes c.min-len.ensures c.in_ok-bytes.ensures some c.if-len-text.false in
    let ended = subst (λ (e : Bool). IsNext e (asked_of c.args.kind) (body unbounded) c.args.text.now (part (piece c.in_ok-bytes.bytes false) c.min-len.result (body unbounded))) (sym c.if-ended.false) next in
    subst (λ n. IsNext c.args.ended (asked_of c.args.kind) (body unbounded) c.args.text.now (seen_next (body unbounded) n)) (sym c.piece-else-ended.ensures) ended
