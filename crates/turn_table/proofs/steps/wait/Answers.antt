use Rattle.std.proofs.Common.{rules}
use Rattle.turn_table.proofs.Keeps.{marks_sleep}
use Rattle.turn_table.proofs.steps.wait.Goals as goal

pub store-requires : goal.store-requires
store-requires g c = (search rules, search rules, marks_sleep g.S.Turned.acts _ (λ _. 1) _ _ _)
