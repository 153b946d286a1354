use Rattle.law_config.proofs.Whole.{too_long, no_utf8, no_toml}
use Rattle.law_config.proofs.laws.first_refusals.Goals as goal

pub returns : goal.returns
returns c = record { too_long = too_long; no_utf8 = no_utf8; no_toml = no_toml }
