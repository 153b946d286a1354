use Rattle.config_files.proofs.Over.{plain_of_none}
use Rattle.config_files.proofs.laws.no_modules_are_plain.Goals as goal

pub returns : goal.returns
returns c = plain_of_none
