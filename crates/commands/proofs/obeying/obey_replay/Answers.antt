use Rattle.std.proofs.Common.{map, string_bytes}
use Rattle.command_serve.specs.Serving.{Eyes, Seen}
use Rattle.commands.proofs.Commands.{obeys_replay}
use Rattle.commands.proofs.obeying.obey_replay.Goals as goal

pub returns-clause-obeys : goal.returns-clause-obeys
returns-clause-obeys g c =
    let W : Type 0 = g.row.S-W.Denot in
    let eyes : Eyes W = record { trace = g.S.W.World.trace; last = g.S.W.World.last; nature = g.S.W.World.nature; faults = g.S.W.World.faults } in
    let site : Seen W = record { started = g.S.Site.started c.args.site.now; seeds = g.S.Site.seeds c.args.site.now; returned = g.S.Site.returned c.args.site.now; faults = g.S.Site.faults c.args.site.now } in
    obeys_replay eyes (g.F.Files.holds c.args.files.now) c.args.script.now (map string_bytes c.args.modules.now) c.replay_plain.result site (g.O.Sink.taken c.args.out.now) (g.O.Sink.taken c.replay_plain.new.out) c.replay_plain.ensures.replays
