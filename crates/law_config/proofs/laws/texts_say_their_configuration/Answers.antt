use Rattle.law_config.proofs.Whole.{is_written}
use Rattle.law_config.proofs.laws.texts_say_their_configuration.Goals as goal

pub returns : goal.returns
returns c = is_written
