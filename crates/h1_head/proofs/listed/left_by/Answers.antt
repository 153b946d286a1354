use Rattle.std.proofs.Common.{arith}
use Rattle.h1_model.specs.Fields.{Pair}
use Rattle.h1_head.proofs.Unlisted.{left_step}
use Rattle.h1_head.proofs.listed.left_by.Goals as goal

pub loop-at-preserved : goal.loop-at-preserved
loop-at-preserved c =
    let pairs = c.args.fields.now.pairs in
    let f : Pair = (c.pair.result.0.now, c.pair.result.1.now) in
    left_step c.args.connection.now pairs c.loop-at.at f f c.loop-at.left.pairs _ _ c.is_listed-is_listed.result (omega (arith, c.len-at-end.ensures.count, c.loop-at-test.true)) c.pair.ensures.pair c.requires.kept
    c.is_listed-is_listed.ensures c.in_ok-put_left.ensures c.loop-at.invariant
