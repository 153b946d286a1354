use Rattle.std.proofs.Common.{◌≡◌, ◌≤◌, ℕ, true, false}
use Rattle.fleet.specs.Lives.{Early, first_of}
use Rattle.fleet.proofs.lives.live.Given as goal

abbrev pub invariant-lives : goal.invariant-lives
invariant-lives g l = record {
  stores : g.S.Shared.stores l.shared ≡ g.S.Shared.stores l.fn.shared;
  nature : g.W.World.nature l.watched ≡ g.W.World.nature l.fn.watched;
  faults : g.W.World.faults l.fn.watched ≤ g.W.World.faults l.watched;
  early : (n : ℕ) × (l.again ≡ false → n ≡ 0) × Early g.H.Host.calling g.S.Shared.performs (first_of g.H.Host.exported g.H.Host.registering l.fn.config (g.M.MakesHost.made l.fn.maker l.fn.config) l.fn.who (g.W.World.nature l.fn.watched).seed) n l.fn.shared (g.W.World.trace l.fn.watched) l.shared (g.W.World.trace l.watched) × (l.again ≡ true → 1 ≤ n);
}
