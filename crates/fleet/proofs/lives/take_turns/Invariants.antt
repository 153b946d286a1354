use Rattle.std.proofs.Common.{◌≡◌, ◌≤◌, ℕ}
use Rattle.fleet.specs.Lives.{Turns}
use Rattle.fleet.proofs.lives.take_turns.Given as goal

abbrev pub invariant-turns : goal.invariant-turns
invariant-turns g l = record {
  setting : l.worker.setting ≡ l.fn.worker.setting;
  needs : g.H.Host.needs l.worker.state.host ≡ g.H.Host.needs l.fn.worker.state.host;
  stores : g.S.Shared.stores l.shared ≡ g.S.Shared.stores l.fn.shared;
  nature : g.W.World.nature l.world ≡ g.W.World.nature l.fn.world;
  faults : g.W.World.faults l.fn.world ≤ g.W.World.faults l.world;
  went : (n : ℕ) × Turns g.H.Host.calling g.S.Shared.performs n l.fn.shared (g.W.World.trace l.fn.world) l.fn.worker l.worker l.shared (g.W.World.trace l.world);
}
