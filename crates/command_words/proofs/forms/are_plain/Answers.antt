use Rattle.std.proofs.Common.{◌∙◌, sym, string_bytes}
use Rattle.command_words.specs.Forms.{is_plain}
use Rattle.command_words.proofs.Mapped.{all_map}
use Rattle.command_words.proofs.forms.are_plain.Goals as goal

pub returns : goal.returns
returns c = c.all_are_plain.ensures ∙ sym (all_map is_plain string_bytes c.args.words.now)
