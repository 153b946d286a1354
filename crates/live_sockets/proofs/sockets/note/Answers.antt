use Rattle.live_sockets.proofs.Kept.{heard_in_kept}
use Rattle.live_sockets.proofs.sockets.note.Goals as goal

pub returns-in-Some : goal.returns-in-Some
returns-in-Some g c = heard_in_kept g.P.Duplex.gave g.P.Duplex.took c.args.lines.now.items c.in-Some.at c.note_at.new.lines.items c.note_at.ensures
