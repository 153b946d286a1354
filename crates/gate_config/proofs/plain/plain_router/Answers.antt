use Rattle.std.proofs.Common.{refl}
use Rattle.matchit.proofs.OnLiterals.{matchit_on_literals}
use Rattle.gate_config.proofs.plain.plain_router.Goals as goal

pub insert-requires : goal.insert-requires
unfolding matchit_on_literals
insert-requires c = rw c.new-router.ensures refl

pub insert-requires-2 : goal.insert-requires-2
unfolding matchit_on_literals
insert-requires-2 c = rw (c.in_ok-insert.ensures, c.new-router.ensures) refl
