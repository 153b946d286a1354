use Rattle.command_serve.specs.Serving.{Eyes, Seen}
use Rattle.commands.proofs.Commands.{obeys_serve}
use Rattle.commands.proofs.obeying.obey_serve.Goals as goal

pub returns-clause-obeys : goal.returns-clause-obeys
returns-clause-obeys g c =
    let W : Type 0 = g.row.S-W.Denot in
    let eyes : Eyes W = record { trace = g.S.W.World.trace; last = g.S.W.World.last; nature = g.S.W.World.nature; faults = g.S.W.World.faults } in
    let site : Seen W = record { started = g.S.Site.started c.args.site.now; seeds = g.S.Site.seeds c.args.site.now; returned = g.S.Site.returned c.args.site.now; faults = g.S.Site.faults c.args.site.now } in
    let after : Seen W = record { started = g.S.Site.started c.serve_file.new.site; seeds = g.S.Site.seeds c.serve_file.new.site; returned = g.S.Site.returned c.serve_file.new.site; faults = g.S.Site.faults c.serve_file.new.site } in
    obeys_serve eyes (g.F.Files.holds c.args.files.now) c.args.config.now c.args.stop_after c.serve_file.result site after (g.O.Sink.taken c.args.out.now) (g.O.Sink.taken c.serve_file.new.out) c.serve_file.ensures.serves
