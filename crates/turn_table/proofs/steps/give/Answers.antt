use Rattle.std.proofs.Common.{rules}
use Rattle.turn_table.proofs.Keeps.{gives_turn, marks_sleep}
use Rattle.turn_table.proofs.steps.give.Goals as goal

pub store-requires : goal.store-requires
store-requires g c = (search rules, search rules, gives_turn g.S.Turned.acts _ _ _ _ c.requires.holds.0 c.requires.holds.1)

pub store-requires-then-peek-ne0 : goal.store-requires-then-peek-ne0
store-requires-then-peek-ne0 g c = (search rules, search rules, marks_sleep g.S.Turned.acts _ (λ _. 0) _ _ _)
