use Rattle.std.proofs.Common.{◌∙◌, sym, string_bytes}
use Rattle.command_words.specs.Forms.{is_number}
use Rattle.command_words.proofs.Mapped.{all_map}
use Rattle.command_words.proofs.forms.are_numbers.Goals as goal

pub returns : goal.returns
returns c = c.all_are_numbers.ensures ∙ sym (all_map is_number string_bytes c.args.words.now)
