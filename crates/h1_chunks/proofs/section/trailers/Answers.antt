use Rattle.h1_chunks.proofs.Sections.{are_taken, few_fields}
use Rattle.h1_chunks.proofs.section.trailers.Goals as goal

pub kept-requires-clause-taken : goal.kept-requires-clause-taken
kept-requires-clause-taken c =
    let some = c.in-Some.ensures.some in
    are_taken c.args.text.now c.args.len c.in-Some.count c.field_count.new.headers some.0 some.1 c.requires.cut c.requires.limit c.requires.fits some.2

pub returns-in-None : goal.returns-in-None
returns-in-None c =
    λ fields last reads. c.in-None.ensures.none fields last reads
    (few_fields c.args.text.now c.args.len fields last c.requires.cut c.requires.limit c.requires.fits reads)
