use Rattle.std.proofs.Common.{◌≡◌}
use Rattle.live_sockets.specs.Keeping.{AreFew}
use Rattle.live_sockets.proofs.sockets.Sockets.arrive.Given as goal

-- no line was kept so far
abbrev pub invariant-loop : goal.invariant-loop
invariant-loop g l =
    record {
      same : l.self.lines.items ≡ l.fn.self.lines.items;
      few : AreFew l.fn.self.lines.items → AreFew l.self.lines.items;
      looks : l.self.looks ≡ l.fn.self.looks;
    }
