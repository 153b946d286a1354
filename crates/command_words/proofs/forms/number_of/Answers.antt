use Rattle.std.proofs.Common.{◌≡◌, true, rules, sym, ◌∙◌}
use Rattle.command_words.specs.Forms.{is_number}
use Rattle.command_words.proofs.Numbers.{too_large}
use Rattle.command_words.proofs.forms.number_of.Goals as goal

pub returns-in-Err : goal.returns-in-Err
returns-in-Err c =
    let h : is_number c.args.word.now ≡ true = cc (c.is_number.ensures, c.as_bytes.ensures.value, c.if-not-is_number.false) in
    too_large c.args.word.now c.in-Err.field-0 h (rw c.in-Err.is at c.parse.ensures.value.0)
