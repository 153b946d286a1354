use Rattle.std.proofs.Common.{refl}
use Rattle.command_words.specs.Forms.{number_of}
use Rattle.command_words.proofs.laws.worked_words.Goals as goal

pub returns : goal.returns
unfolding number_of
returns c = record {
  nothing = refl;
  script = refl;
  script_of_input = refl;
  module_of_input = refl;
  over_a_configuration = refl;
  option_behind = refl;
  option_joined = refl;
  served = refl;
  served_until = refl;
  served_until_none = refl;
  served_too_long = refl;
  leading_zero = refl;
  checked = refl;
  checked_input = refl;
  invoked = refl;
  signed = refl;
  generated = refl;
  generated_too_much = refl;
  reported = refl;
  reported_input = refl;
  reported_twice = refl;
  help = refl;
  abbreviation = refl;
  empty_word = refl;
}
