use Rattle.std.proofs.Common.{◌≡◌, ◌≤◌, vec_len}
use Rattle.fleet.specs.Closing.{AreStanding}
use Rattle.fleet.proofs.Standing.{ClosesThen}
use Rattle.fleet.proofs.watched.Watched.close_all.Given as goal

abbrev pub invariant-closes : goal.invariant-closes
invariant-closes g l = record {
  standing : AreStanding (g.W.World.trace l.self-inside.world) l.self-inside.standing.items;
  closes : ClosesThen (g.W.World.trace l.fn.self) (g.W.World.trace l.self-inside.world) l.self-inside.standing.items;
  nature : g.W.World.nature l.self-inside.world ≡ g.W.World.nature l.fn.self;
  faults : g.W.World.faults l.fn.self ≤ g.W.World.faults l.self-inside.world;
}

abbrev pub decreases-closes : goal.decreases-closes
decreases-closes g l = vec_len l.self-inside.standing
