use Rattle.std.proofs.Common.{Some, Ok, Err, subst, sym}
use Rattle.config_check.specs.Check.{Reaches as CheckReaches}
use Rattle.config_check.specs.declared.checking.CheckEnd.{CheckEnd}
use Rattle.config_check.specs.declared.checking.CheckEnd.TheVariants as checks
use Rattle.command_statuses.specs.declared.status.Status.{Status}
use Rattle.command_words.specs.Forms.{check}
use Rattle.commands.specs.Reading.{ReadsFor}
use Rattle.commands.proofs.FilesRead.{reads_check}
use Rattle.commands.proofs.check.check_file.Goals as goal

pub returns-in-Ok-clause-reads : goal.returns-in-Ok-clause-reads
returns-in-Ok-clause-reads g c = reads_check (g.F.Files.holds c.args.files.now) c.args.path.now _ _ c.check.ensures.paths (Ok c.in-Ok.field-0) c.in-Ok.ensures.reaches

pub returns-in-Err-NotLoaded-clause-reads : goal.returns-in-Err-NotLoaded-clause-reads
returns-in-Err-NotLoaded-clause-reads g c =
    let old = g.F.Files.paths c.args.files.now in
    let new = g.F.Files.paths c.check.new.files in
    subst (λ (s : Status). ReadsFor (g.F.Files.holds c.args.files.now) (Some (check c.args.path.now)) s old new) (sym c.of_load.ensures)
    (reads_check (g.F.Files.holds c.args.files.now) c.args.path.now old new c.check.ensures.paths (Err (checks.NotLoaded c.in-Err-NotLoaded.end))
    (subst (λ (e : CheckEnd). CheckReaches (g.F.Files.holds c.args.files.now) c.args.path.now (Err e) old new) c.in-Err-NotLoaded.field-0-is c.in-Err-NotLoaded.ensures.reaches))

pub returns-in-Err-OutFault-clause-reads : goal.returns-in-Err-OutFault-clause-reads
returns-in-Err-OutFault-clause-reads g c =
    let old = g.F.Files.paths c.args.files.now in
    let new = g.F.Files.paths c.check.new.files in
    reads_check (g.F.Files.holds c.args.files.now) c.args.path.now old new c.check.ensures.paths (Err checks.OutFault)
    (subst (λ (e : CheckEnd). CheckReaches (g.F.Files.holds c.args.files.now) c.args.path.now (Err e) old new) c.in-Err-OutFault.field-0-is c.in-Err-OutFault.ensures.reaches)

pub returns-in-Err-OutOfMemory-clause-reads : goal.returns-in-Err-OutOfMemory-clause-reads
returns-in-Err-OutOfMemory-clause-reads g c = reads_check (g.F.Files.holds c.args.files.now) c.args.path.now _ _ c.check.ensures.paths (Err checks.OutOfMemory) tt
