use Rattle.std.proofs.Common.{not, ap, refl}
use Rattle.store_model.specs.Store.{is_bare}
use Rattle.law_fleet.proofs.laws.worked_memory.Goals as goal

pub returns-clause-resolve : goal.returns-clause-resolve
returns-clause-resolve c = λ s name. refl

pub returns-clause-dequeue : goal.returns-clause-dequeue
returns-clause-dequeue c = λ s queue. refl

pub returns-clause-notice : goal.returns-clause-notice
returns-clause-notice c = λ s. refl

pub returns-clause-stale : goal.returns-clause-stale
returns-clause-stale c = λ s key value number is. ap not is

pub returns-clause-absent : goal.returns-clause-absent
returns-clause-absent c = λ s key is. ap is_bare is

pub returns-clause-empty : goal.returns-clause-empty
returns-clause-empty c = λ s key number is. ap is_bare is

pub returns-clause-add : goal.returns-clause-add
returns-clause-add c = λ ms id by. (refl, tt)

pub returns-clause-put : goal.returns-clause-put
returns-clause-put c = λ ms id value. (refl, tt)

pub returns-clause-sum : goal.returns-clause-sum
returns-clause-sum c = λ ms id. (refl, tt)
