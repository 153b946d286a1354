use Rattle.h1_head.specs.Held.{fields_of}
use Rattle.h1_head.proofs.ListedLengths.{unlisted_by_length}
use Rattle.h1_head.proofs.fields.Fields.is_among_few.Goals as goal

pub returns-then-not-has : goal.returns-then-not-has
returns-then-not-has c =
    unlisted_by_length c.args.lengths c.has.result c.args.name.now (fields_of c.args.self.now) c.requires.lengths c.has.ensures c.if-not-has.true
