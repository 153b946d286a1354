use Rattle.std.proofs.Common.{refl}
use Rattle.fleet.proofs.Counting.{has_one, not_fewer, not_more}
use Rattle.fleet.proofs.laws.each_vm_has_one_history.Goals as goal

pub returns-clause-one : goal.returns-clause-one
returns-clause-one g c = λ first config old new closed vm ended low. has_one g.W.World.trace g.W.World.nature g.W.World.faults g.H.Host.calling first config old new closed vm ended low

pub returns-clause-two : goal.returns-clause-two
returns-clause-two g c =
    λ first config a b old new s t m n o is.
    (not_fewer g.W.World.trace g.W.World.nature g.W.World.faults g.H.Host.calling first config old new _ a b is refl, not_more g.W.World.trace g.W.World.nature g.W.World.faults g.H.Host.calling first config old new _ a b is refl)
