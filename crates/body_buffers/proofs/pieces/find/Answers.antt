use Rattle.std.proofs.Common.{[], length, ap, arith}
use Rattle.std.proofs.lemmas.List.{get_or_read}
use Rattle.body_buffers.proofs.Cuts.{length_concat_take}
use Rattle.body_buffers.proofs.pieces.find.Goals as goal

pub loop-whole-preserved : goal.loop-whole-preserved
loop-whole-preserved c =
    let list = c.args.list.now in
    let here = get_or_read list c.loop-whole.whole c.index-list-whole.result c.loop-whole-test.true c.index-list-whole.is [] in
    omega (arith, length_concat_take list c.loop-whole.whole, ap length here, c.loop-whole.invariant, c.len-len.ensures.value, c.if-more-len.false)
