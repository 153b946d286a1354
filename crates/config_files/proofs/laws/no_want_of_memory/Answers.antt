use Rattle.config_files.proofs.Misfits.{never_memory}
use Rattle.config_files.proofs.laws.no_want_of_memory.Goals as goal

pub returns : goal.returns
returns c bytes pages h = never_memory h.of pages h.misfit
