use Rattle.std.proofs.Common.{true}
use Rattle.std.specs.Prelude.{slice_index_or, slice_set}
use Rattle.http_header.specs.Token.{lowercase}
use Rattle.std.proofs.lemmas.Bool.{and_parts}
use Rattle.h1_text.specs.Wanted.{first_of, shape_of, begins}
use Rattle.h1_text.proofs.Skips.{both, set_true}
use Rattle.h1_text.proofs.wanted.Wanted.add.Goals as goal

pub returns-clause-kept : goal.returns-clause-kept
returns-clause-kept c = λ other can m same.
    let old = c.args.self.now in
    let h = and_parts (begins old m) (slice_index_or old.shapes (shape_of (lowercase m)) true) (can m same) in
    both _ _
    (set_true (slice_set old.firsts c.to_ascii_lowercase.result true) c.to_ascii_uppercase.result (first_of m)
    (set_true old.firsts c.to_ascii_lowercase.result (first_of m) h.0))
    (set_true old.shapes c.shape_of.result (shape_of (lowercase m)) h.1)
