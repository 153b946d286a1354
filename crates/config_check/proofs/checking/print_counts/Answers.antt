use Rattle.std.proofs.Common.{◌∙◌}
use Rattle.gate_config.specs.Given.{given}
use Rattle.config_check.specs.Check.{counts_line}
use Rattle.config_check.proofs.Checked.{printed_as}
use Rattle.config_check.proofs.checking.print_counts.Goals as goal

pub returns-in-Ok-clause-printed : goal.returns-in-Ok-clause-printed
returns-in-Ok-clause-printed g c = printed_as c.as_bytes.result.now (counts_line (given c.args.config.now)) c.print.result _ _ (c.as_bytes.ensures.value ∙ c.in-Ok.ensures) c.print.ensures.printed
