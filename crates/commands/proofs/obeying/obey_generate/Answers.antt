use Rattle.command_serve.specs.Serving.{Eyes, Seen}
use Rattle.commands.proofs.Commands.{obeys_generate}
use Rattle.commands.proofs.FilesRead.{reads_generate}
use Rattle.commands.proofs.obeying.obey_generate.Goals as goal

pub returns-clause-obeys : goal.returns-clause-obeys
returns-clause-obeys g c =
    let W : Type 0 = g.row.S-W.Denot in
    let eyes : Eyes W = record { trace = g.S.W.World.trace; last = g.S.W.World.last; nature = g.S.W.World.nature; faults = g.S.W.World.faults } in
    let site : Seen W = record { started = g.S.Site.started c.args.site.now; seeds = g.S.Site.seeds c.args.site.now; returned = g.S.Site.returned c.args.site.now; faults = g.S.Site.faults c.args.site.now } in
    obeys_generate eyes (g.F.Files.holds c.args.files.now) c.args.n c.generate_load.result site (g.O.Sink.taken c.args.out.now) (g.O.Sink.taken c.generate_load.new.out) c.generate_load.ensures.generates

pub returns-clause-reads : goal.returns-clause-reads
returns-clause-reads g c =
    reads_generate (g.F.Files.holds c.args.files.now) c.args.n c.generate_load.result c.generate_load.ensures.generates.end (g.F.Files.paths c.args.files.now) c.generate_load.ensures.generates.status_is
