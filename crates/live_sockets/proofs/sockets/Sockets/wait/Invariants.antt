use Rattle.live_sockets.specs.Keeping.{AreKept}
use Rattle.live_sockets.specs.Looks.{MayHear}
use Rattle.live_sockets.specs.Times.{IsTold}
use Rattle.live_sockets.proofs.sockets.Sockets.wait.Given as goal

-- nothing was heard so far, the system was asked lately, and the clocks were read
abbrev pub invariant-loop : goal.invariant-loop
invariant-loop g l =
    record {
      kept : AreKept g.P.Duplex.gave g.P.Duplex.took l.fn.self.lines.items l.self.lines.items;
      may : MayHear l.fn.self.looks l.self.looks;
      told : IsTold (g.R.TimeSource.tells l.rt) l.self.looks.seen;
    }
