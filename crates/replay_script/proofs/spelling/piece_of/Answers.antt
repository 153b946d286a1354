use Rattle.std.proofs.Common.{◌≡◌, Some, Ok, subst, sym, ap, ◌∙◌}
use Rattle.hex.specs.Hex.{decode_of}
use Rattle.hex.proofs.HexLemmas.{decode_of-encode_lower}
use Rattle.replay_script.specs.Commands.{IsPiece}
use Rattle.replay_script.proofs.Spaces.{not_spelled}
use Rattle.replay_script.proofs.spelling.piece_of.Goals as goal

pub returns-in-Ok-clause-only : goal.returns-in-Ok-clause-only
returns-in-Ok-clause-only c = λ bytes piece e.
    let read : decode_of c.args.digits.now ≡ Ok bytes = ap decode_of e ∙ decode_of-encode_lower bytes piece.each in
    let same : c.in-Ok.bytes.items ≡ bytes = cc (read, c.in-Ok.ensures.ok) in
    c.within_bounds.ensures.only (subst IsPiece (sym same) piece) ∙ ap Some same

pub returns-in-Err-clause-only : goal.returns-in-Err-clause-only
returns-in-Err-clause-only c = not_spelled c.not_decoded.result c.in-Err.refusal c.args.digits.now c.in-Err.ensures.err c.not_decoded.ensures
