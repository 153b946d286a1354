use Rattle.std.proofs.Common.{sym, ◌∙◌}
use Rattle.std.proofs.lemmas.Bool.{false≢true}
use Rattle.h1_head.specs.Held.{fields_of}
use Rattle.h1_head.proofs.Noting.{none_listed, one_lists}
use Rattle.h1_head.proofs.fields.Fields.lengths_by.Goals as goal

pub returns-in-Absent : goal.returns-in-Absent
returns-in-Absent c =
    λ name some. absurd (false≢true (sym (none_listed name (fields_of c.args.self.now) (rw c.in-Absent.is at c.requires)) ∙ some))

pub returns-in-One : goal.returns-in-One
returns-in-One c =
    λ name some. c.with_members.ensures.members name (sym (one_lists name (fields_of c.args.self.now) _ (rw c.in-One.is at c.requires)) ∙ some)
