use Rattle.std.proofs.Common.{refl}
use Rattle.std.specs.Char.{encode_utf8}
use Rattle.std.specs.Fmt.{digits}
use Rattle.std.specs.Str.{chars, is_utf8}
use Rattle.matchit.proofs.OnLiterals.{matchit_on_literals}
use Rattle.toml.proofs.OnLiterals.{toml_on_literals}
use Rattle.config_names.specs.Names.{vm_number, plugin_number}
use Rattle.config_reader.specs.Words.{number_from}
use Rattle.law_config.proofs.laws.worked_text.Goals as goal

pub returns : goal.returns
unfolding is_utf8 chars encode_utf8 toml_on_literals digits matchit_on_literals vm_number plugin_number number_from
returns c = record {
  whole = refl;
  tcp = refl;
  empty = refl;
}
