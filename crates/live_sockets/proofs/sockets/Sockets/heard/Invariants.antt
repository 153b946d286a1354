use Rattle.std.proofs.Common.{◌≡◌}
use Rattle.live_sockets.specs.Keeping.{AreKept}
use Rattle.live_sockets.proofs.sockets.Sockets.heard.Given as goal

-- nothing was heard so far
abbrev pub invariant-loop : goal.invariant-loop
invariant-loop g l =
    record {
      kept : AreKept g.P.Duplex.gave g.P.Duplex.took l.fn.self.lines.items l.self.lines.items;
      looks : l.self.looks ≡ l.fn.self.looks;
    }
