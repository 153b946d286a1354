use Rattle.std.proofs.Common.{◌+◌, ◌-◌, ◌++◌, length, take, append-nil, ap, ◌∙◌, arith}
use Rattle.std.proofs.lemmas.List.{drop_all, take_all}
use Rattle.http_header.specs.Token.{lowercase}
use Rattle.header_maps.proofs.Lowered.{lowered_more}
use Rattle.header_maps.proofs.texts.lower.Goals as goal

pub loop-at-preserved : goal.loop-at-preserved
loop-at-preserved c =
    let at = c.loop-at.at in
    record {
      last = omega (arith, c.if-len-lt-BLOCK.false);
      near = omega (arith, c.loop-at-test.true);
      text = lowered_more c.args.text.now c.loop-at.text c.make_ascii_lowercase-in-loop-at.new.self at at (at + 8 - at) (at + 8)
          c.loop-at.invariant.text c.make_ascii_lowercase-in-loop-at.ensures.after (omega arith) (omega arith) (omega arith)
          (omega (arith, c.loop-at-test.true, c.if-len-lt-BLOCK.false));
    }

pub returns : goal.returns
returns c =
    let text = c.args.text.now in
    let at = c.loop-at.at in
    let n = length text in
    lowered_more text c.loop-at.text c.make_ascii_lowercase-2.new.self at (n - 8) (length c.loop-at.text - (n - 8)) n
    c.loop-at.invariant.text c.make_ascii_lowercase-2.ensures.after
    (omega (arith, c.if-len-lt-BLOCK.false, c.loop-at.auto.text)) (omega (arith, c.loop-at-test.false))
    (omega (arith, c.loop-at.invariant.near, c.if-len-lt-BLOCK.false)) (omega arith)
    ∙ ap (λ x. lowercase (take n text) ++ x) (drop_all n text (omega arith)) ∙ append-nil (lowercase (take n text))
    ∙ ap lowercase (take_all n text (omega arith))
