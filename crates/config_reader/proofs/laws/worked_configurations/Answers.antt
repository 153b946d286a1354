use Rattle.std.proofs.Common.{refl}
use Rattle.std.specs.Fmt.{digits}
use Rattle.matchit.proofs.OnLiterals.{matchit_on_literals}
use Rattle.toml.proofs.OnLiterals.{toml_on_literals}
use Rattle.config_names.specs.Names.{vm_number, plugin_number}
use Rattle.config_reader.specs.Words.{number_from}
use Rattle.config_reader.proofs.laws.worked_configurations.Goals as goal

pub returns : goal.returns
unfolding toml_on_literals digits matchit_on_literals vm_number plugin_number number_from
returns c = record {
  empty = refl;
  missing = refl;
  least_unknown = refl;
  past_the_bound = refl;
  repeated = refl;
  no_such_vm = refl;
  conflict = refl;
  streams = refl;
  no_such_plugin = refl;
  no_text = refl;
  accepted = refl;
}
