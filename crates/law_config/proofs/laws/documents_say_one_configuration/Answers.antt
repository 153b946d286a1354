use Rattle.law_config.proofs.Unique.{one_configuration}
use Rattle.law_config.proofs.laws.documents_say_one_configuration.Goals as goal

pub returns : goal.returns
returns c = one_configuration
