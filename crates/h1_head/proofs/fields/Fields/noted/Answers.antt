use Rattle.std.proofs.Common.{take}
use Rattle.h1_model.specs.Fields.{Pair}
use Rattle.h1_text.specs.Spans.{fields_at}
use Rattle.h1_head.proofs.Noting.{noted_next, noted_all}
use Rattle.h1_head.proofs.fields.Fields.noted.Goals as goal

pub loop-span-preserved : goal.loop-span-preserved
loop-span-preserved c =
    let text = c.args.self.now.text.now in
    let spans = c.args.self.now.spans.now in
    let i = c.loop-span.span-index in
    let f : Pair = (c.pair_at.result.0.now, c.pair_at.result.1.now) in
    noted_next text spans i _ f _ c.loop-span-test.true c.pair_at.ensures.pair (c.note.ensures (fields_at text (take i spans)) c.loop-span.invariant)

pub returns : goal.returns
returns c =
    noted_all c.args.self.now.text.now c.args.self.now.spans.now c.loop-span.span-index _ c.loop-span-test.false c.loop-span.invariant
