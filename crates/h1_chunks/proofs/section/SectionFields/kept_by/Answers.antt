use Rattle.std.proofs.Common.{get_or}
use Rattle.h1_chunks.proofs.Sections.{add_taken, taken_at, few_so_far, value_short}
use Rattle.h1_chunks.proofs.section.SectionFields.kept_by.Goals as goal

pub put-requires-clause-taken : goal.put-requires-clause-taken
put-requires-clause-taken c =
    let taken = taken_at c.args.self.now.text.now c.args.self.now.spans.now c.loop-span.span-index _ c.pair_at.result.0.now c.pair_at.result.1.now
    c.requires.taken c.loop-span-test.true c.pair_at.ensures in
    add_taken c.loop-span.list c.pair_at.result.0.now c.pair_at.result.1.now taken.name taken.value
    (few_so_far c.args.self.now.text.now c.args.self.now.spans.now c.loop-span.span-index _ c.requires.taken c.loop-span.invariant.few c.loop-span-test.true)

pub put-requires-clause-short : goal.put-requires-clause-short
put-requires-clause-short c =
    value_short c.args.self.now.text.now (get_or c.args.self.now.spans.now c.loop-span.span-index _) _ _ c.pair_at.ensures c.requires.short
