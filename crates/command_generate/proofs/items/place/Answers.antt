use Rattle.std.proofs.Common.{sym, ◌∙◌}
use Rattle.command_generate.specs.Items.{comes_before}
use Rattle.command_generate.proofs.Texts.{place_found, place_at_end}
use Rattle.command_generate.proofs.items.place.Goals as goal

pub returns-in-Some-clause-place : goal.returns-in-Some-clause-place
returns-in-Some-clause-place c = place_found (comes_before c.args.text.now) c.args.texts.now c.in-Some.at (sym c.in-Some.is ∙ c.first_after.ensures.place)

pub returns-in-None-clause-place : goal.returns-in-None-clause-place
returns-in-None-clause-place c = place_at_end (comes_before c.args.text.now) c.args.texts.now (sym c.in-None.is ∙ c.first_after.ensures.place)
