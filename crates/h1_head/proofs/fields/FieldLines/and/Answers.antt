use Rattle.std.proofs.Common.{◌∷◌, ◌++◌, [], ap, List, ℕ}
use Rattle.h1_head.proofs.Noting.{one_more, many_more}
use Rattle.h1_head.proofs.fields.FieldLines.and.Goals as goal

pub returns-in-Absent : goal.returns-in-Absent
returns-in-Absent c = λ values is. ap (λ (vs : List (List ℕ)). vs ++ c.args.value.now ∷ []) (rw c.in-Absent.is at is)

pub returns-in-One : goal.returns-in-One
returns-in-One c = λ values is. one_more values _ c.args.value.now (rw c.in-One.is at is)

pub returns-in-Many : goal.returns-in-Many
returns-in-Many c = λ values is. many_more values c.args.value.now (rw c.in-Many.is at is)
