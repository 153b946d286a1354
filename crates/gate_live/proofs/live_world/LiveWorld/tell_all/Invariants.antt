use Rattle.std.proofs.Common.{◌≡◌}
use Rattle.gate_live.specs.Logged.{Notices}
use Rattle.gate_live.specs.Worlds.{log_in}
use Rattle.gate_live.proofs.live_world.LiveWorld.tell_all.Given as goal

-- a notice of each kind so far, at most, and nothing else of the world changed
abbrev pub invariant-loop-kind : goal.invariant-loop-kind
invariant-loop-kind g l = record {
  notices : Notices g.R.LogStream.logged g.R.LogStream.refuses l.kind (log_in l.fn.self) (log_in l.self);
  rest : l.self ≡ record l.fn.self { rt = l.self.rt; is_cut = l.self.is_cut; dropped = l.self.dropped };
}
