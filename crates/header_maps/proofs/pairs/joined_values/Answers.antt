use Rattle.std.proofs.Common.{◌<◌, ℕ, List, length, sym, arith, ap, ◌∙◌, Some}
use Rattle.http_header.specs.Token.{lowercase}
use Rattle.header_maps.specs.Pairs.{Pair}
use Rattle.header_maps.proofs.Setting.{joined_yes, joined_no}
use Rattle.header_maps.proofs.pairs.joined_values.Goals as goal
use Rattle.header_maps.proofs.pairs.joined_values.Goals.{then-is_same_word+in_ok-joined_with, else-is_same_word}

pub loop-at-preserved : goal.loop-at-preserved
loop-at-preserved c =
    let n = lowercase c.args.name.now in
    let d : Pair = (c.pair.result.0.now, c.pair.result.1.now) in
    let within : c.loop-at.at < length c.args.items.now = omega (arith, c.len-at-end.ensures, c.loop-at-test.true) in
    elim c.if-is_same_word.branch [
      | then-is_same_word+in_ok-joined_with w ↦
          w.joined-is ∙ ap (λ (x : List ℕ). Some x) w.in_ok-joined_with.ensures
          ∙ joined_yes (lowercase c.args.name.now) c.args.items.now c.loop-at.at d c.loop-at.joined within c.pair.ensures (sym w.if-is_same_word.ensures) c.loop-at.invariant
      | else-is_same_word w ↦
          w.joined-is
          ∙ joined_no (lowercase c.args.name.now) c.args.items.now c.loop-at.at d c.loop-at.joined within c.pair.ensures (sym w.if-is_same_word.ensures) c.loop-at.invariant
    ]
