use Rattle.gate_config.specs.Given.{given}
use Rattle.gate_io.specs.Told.{gains_nothing}
use Rattle.config_files.specs.declared.reading.LoadEnd.TheVariants.{FileFault}
use Rattle.config_check.specs.Check.{counts_line}
use Rattle.config_check.proofs.Checked.{printed_checked, no_file_fault, reaches_all}
use Rattle.config_check.proofs.checking.check.Goals as goal

pub returns-in-Ok-clause-checked : goal.returns-in-Ok-clause-checked
returns-in-Ok-clause-checked g c = printed_checked (g.F.Files.holds c.args.files.now) c.args.path.now (given c.in-Ok.config) c.print_counts.result _ _ c.in-Ok.ensures.loaded c.print_counts.ensures.printed

pub returns-in-Ok-clause-reaches : goal.returns-in-Ok-clause-reaches
returns-in-Ok-clause-reaches g c =
    reaches_all (g.F.Files.holds c.args.files.now) c.args.path.now (given c.in-Ok.config) (counts_line (given c.in-Ok.config)) c.print_counts.result _ _ _ _ c.in-Ok.ensures.loaded c.print_counts.ensures.printed c.in-Ok.ensures.all_read

pub returns-in-Ok-clause-file_fault : goal.returns-in-Ok-clause-file_fault
returns-in-Ok-clause-file_fault g c = λ e. absurd (no_file_fault (counts_line (given c.in-Ok.config)) c.print_counts.result FileFault _ _ c.print_counts.ensures.printed e)

pub returns-in-Err-clause-checked : goal.returns-in-Err-clause-checked
returns-in-Err-clause-checked g c = (c.in-Err.ensures.refused, gains_nothing (g.O.Sink.taken c.args.out.now))
