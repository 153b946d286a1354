use Rattle.std.proofs.Common.{Option, map, string_bytes, subst}
use Rattle.command_statuses.specs.declared.status.Status.TheVariants.{Usage}
use Rattle.command_words.specs.Forms.{Command, seen}
use Rattle.command_serve.specs.Serving.{Eyes, Seen}
use Rattle.commands.specs.Doing.{Obeys}
use Rattle.commands.specs.Reading.{ReadsFor}
use Rattle.commands.proofs.Commands.{is_form, no_form_obeys, unread_obeys, err_is_no_ok}
use Rattle.commands.proofs.FilesRead.{reads_no_form, reads_no_memory}
use Rattle.commands.proofs.top_call.obey.Goals as goal

pub carry_out-requires-clause-few : goal.carry_out-requires-clause-few
carry_out-requires-clause-few g c κs within = is_form (map string_bytes c.args.words.now) (seen c.in-Ok-Some.form) (rw c.in-Ok-Some.field-0-is at c.in-Ok-Some.ensures.form)

pub returns-in-Ok-Some-clause-obeys : goal.returns-in-Ok-Some-clause-obeys
returns-in-Ok-Some-clause-obeys g c =
    let W : Type 0 = g.row.S-W.Denot in
    let eyes : Eyes W = record { trace = g.S.W.World.trace; last = g.S.W.World.last; nature = g.S.W.World.nature; faults = g.S.W.World.faults } in
    let before : Seen W = record { started = g.S.Site.started c.args.site.now; seeds = g.S.Site.seeds c.args.site.now; returned = g.S.Site.returned c.args.site.now; faults = g.S.Site.faults c.args.site.now } in
    let after : Seen W = record { started = g.S.Site.started c.carry_out.new.site; seeds = g.S.Site.seeds c.carry_out.new.site; returned = g.S.Site.returned c.carry_out.new.site; faults = g.S.Site.faults c.carry_out.new.site } in
    subst (λ (k : Option Command). Obeys eyes (g.F.Files.holds c.args.files.now) k c.carry_out.result before after (g.O.Sink.taken c.args.out.now) (g.O.Sink.taken c.carry_out.new.out))
    (rw c.in-Ok-Some.field-0-is at c.in-Ok-Some.ensures.form) c.carry_out.ensures.obeys

pub returns-in-Ok-Some-clause-reads : goal.returns-in-Ok-Some-clause-reads
returns-in-Ok-Some-clause-reads g c =
    subst (λ (k : Option Command). ReadsFor (g.F.Files.holds c.args.files.now) k c.carry_out.result (g.F.Files.paths c.args.files.now) (g.F.Files.paths c.carry_out.new.files))
    (rw c.in-Ok-Some.field-0-is at c.in-Ok-Some.ensures.form) c.carry_out.ensures.reads

pub returns-in-Ok-None-clause-obeys : goal.returns-in-Ok-None-clause-obeys
returns-in-Ok-None-clause-obeys g c =
    let W : Type 0 = g.row.S-W.Denot in
    let eyes : Eyes W = record { trace = g.S.W.World.trace; last = g.S.W.World.last; nature = g.S.W.World.nature; faults = g.S.W.World.faults } in
    let site : Seen W = record { started = g.S.Site.started c.args.site.now; seeds = g.S.Site.seeds c.args.site.now; returned = g.S.Site.returned c.args.site.now; faults = g.S.Site.faults c.args.site.now } in
    subst (λ (k : Option Command). Obeys eyes (g.F.Files.holds c.args.files.now) k Usage site site (g.O.Sink.taken c.args.out.now) (g.O.Sink.taken c.args.out.now))
    (rw c.in-Ok-None.field-0-is at c.in-Ok-None.ensures.form) (no_form_obeys eyes (g.F.Files.holds c.args.files.now) site (g.O.Sink.taken c.args.out.now))

pub returns-in-Ok-None-clause-reads : goal.returns-in-Ok-None-clause-reads
returns-in-Ok-None-clause-reads g c = reads_no_form _ _ _

pub returns-in-Err-clause-obeys : goal.returns-in-Err-clause-obeys
returns-in-Err-clause-obeys g c =
    let W : Type 0 = g.row.S-W.Denot in
    let eyes : Eyes W = record { trace = g.S.W.World.trace; last = g.S.W.World.last; nature = g.S.W.World.nature; faults = g.S.W.World.faults } in
    let site : Seen W = record { started = g.S.Site.started c.args.site.now; seeds = g.S.Site.seeds c.args.site.now; returned = g.S.Site.returned c.args.site.now; faults = g.S.Site.faults c.args.site.now } in
    unread_obeys eyes (g.F.Files.holds c.args.files.now) _ site (g.O.Sink.taken c.args.out.now) (λ none. err_is_no_ok _ _ (c.in-Err.ensures.no_form none))

pub returns-in-Err-clause-reads : goal.returns-in-Err-clause-reads
returns-in-Err-clause-reads g c = reads_no_memory _ _ _
