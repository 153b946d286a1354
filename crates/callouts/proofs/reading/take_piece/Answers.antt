use Rattle.std.proofs.Common.{ℕ, List, ◌++◌, length, Some, Err, ap, ◌∙◌}
use Rattle.callouts.proofs.Once.{with_body, had_room, bursts, piece_callout, piece_next, burst_callout, burst_next}
use Rattle.callouts.proofs.reading.take_piece.Goals as goal

pub returns-in-Ok-clause-callout : goal.returns-in-Ok-clause-callout
returns-in-Ok-clause-callout c =
    ap (λ (b : List ℕ). with_body b c.args.c.now) c.in-Ok.ensures.ok ∙ piece_callout c.args.bytes.now c.args.end c.args.c.now (had_room _ _ _ c.in-Ok.ensures.over)

pub returns-in-Ok-clause-next : goal.returns-in-Ok-clause-next
returns-in-Ok-clause-next c = ap Some c.next_step.ensures ∙ piece_next c.args.bytes.now c.args.end c.args.c.now (had_room _ _ _ c.in-Ok.ensures.over)

pub returns-in-Err-OverLimit-clause-callout : goal.returns-in-Err-OverLimit-clause-callout
returns-in-Err-OverLimit-clause-callout c =
    ap (λ (b : List ℕ). with_body b c.args.c.now) c.in-Err-OverLimit.ensures.err
    ∙ burst_callout c.args.bytes.now c.args.end c.args.c.now (bursts (length (c.args.c.now.answer.body ++ c.args.bytes.now)) (c.in-Err-OverLimit.ensures.over.0 (ap Err c.in-Err-OverLimit.field-0-is)))

pub returns-in-Err-OverLimit-clause-next : goal.returns-in-Err-OverLimit-clause-next
returns-in-Err-OverLimit-clause-next c =
    burst_next c.args.bytes.now c.args.end c.args.c.now (bursts (length (c.args.c.now.answer.body ++ c.args.bytes.now)) (c.in-Err-OverLimit.ensures.over.0 (ap Err c.in-Err-OverLimit.field-0-is)))
