use Rattle.config_files.proofs.Over.{bare}
use Rattle.config_files.proofs.laws.vms_are_plain.Goals as goal

pub returns : goal.returns
returns c = bare
