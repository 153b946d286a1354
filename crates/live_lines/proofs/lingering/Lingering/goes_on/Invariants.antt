use Rattle.std.proofs.Common.{◌≡◌, []}
use Rattle.live_lines.specs.Lasting.{Lasts}
use Rattle.live_lines.specs.Waiting.{GoesOn}
use Rattle.live_lines.proofs.lingering.Lingering.goes_on.Given as goal

-- what waited was sent on once, and it lasts for what was read since then
abbrev pub invariant-loop : goal.invariant-loop
invariant-loop g l =
    let took = g.P.Duplex.took in
    record {
      goes_on : GoesOn (took l.fn.self.peer) l.fn.self.waiting [] (took l.self.peer) l.self.waiting;
      lasts : Lasts g.P.Duplex.gave l.now l.fn.self l.self;
      last : l.self.last ≡ l.fn.self.last;
    }
