use Rattle.live_sockets.specs.Keeping.{AreKept}
use Rattle.live_sockets.proofs.sockets.note_all.Given as goal

-- all lines stand so far
abbrev pub invariant-loop-event : goal.invariant-loop-event
invariant-loop-event g l = AreKept g.P.Duplex.gave g.P.Duplex.took l.fn.lines.items l.lines.items
