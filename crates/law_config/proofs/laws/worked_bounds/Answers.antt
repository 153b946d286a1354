use Rattle.std.proofs.Common.{refl}
use Rattle.std.specs.Char.{encode_utf8}
use Rattle.std.specs.Fmt.{digits}
use Rattle.std.specs.Str.{chars, is_utf8}
use Rattle.matchit.proofs.OnLiterals.{matchit_on_literals}
use Rattle.toml.proofs.OnLiterals.{toml_on_literals}
use Rattle.config_names.specs.Names.{vm_number, plugin_number}
use Rattle.config_reader.specs.Words.{number_from}
use Rattle.law_config.proofs.laws.worked_bounds.Goals as goal

pub returns : goal.returns
unfolding is_utf8 chars encode_utf8 toml_on_literals digits matchit_on_literals vm_number plugin_number number_from
returns c = record {
  most_of_gateway = refl;
  no_worker = refl;
  nine_workers = refl;
  long_deadline = refl;
  least_of_a_vm = refl;
  most_of_a_vm = refl;
  long_name = refl;
  no_name = refl;
  capital = refl;
  no_fuel = refl;
  much_fuel = refl;
  no_pages = refl;
  other_word = refl;
}
