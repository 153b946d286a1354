use Rattle.std.proofs.Common.{refl}
use Rattle.store_model.proofs.Bounds.{names, bytes}
use Rattle.store_model.proofs.law.limits_from_both_sides.Goals as goal

pub returns-clause-items : goal.returns-clause-items
returns-clause-items c = (refl, refl)

pub returns-clause-notices : goal.returns-clause-notices
returns-clause-notices c = (refl, refl)

pub returns-clause-numbers : goal.returns-clause-numbers
returns-clause-numbers c = refl

pub returns-clause-names : goal.returns-clause-names
returns-clause-names c = names

pub returns-clause-bytes : goal.returns-clause-bytes
returns-clause-bytes c = bytes
