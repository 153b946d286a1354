use Rattle.std.proofs.Common.{refl}
use Rattle.std.specs.Char.{encode_utf8}
use Rattle.std.specs.Fmt.{digits}
use Rattle.std.specs.Str.{chars, is_utf8}
use Rattle.matchit.proofs.OnLiterals.{matchit_on_literals}
use Rattle.toml.proofs.OnLiterals.{toml_on_literals}
use Rattle.config_names.specs.Names.{vm_number, plugin_number}
use Rattle.config_reader.specs.Words.{number_from}
use Rattle.law_config.proofs.laws.worked_order.Goals as goal

pub returns : goal.returns
unfolding is_utf8 chars encode_utf8 toml_on_literals digits matchit_on_literals vm_number plugin_number number_from
returns c = record {
  no_utf8 = refl;
  no_toml = refl;
  key_twice = refl;
  least_unknown_table = refl;
  unknown_table_before_gateway = refl;
  gateway_is_a_table = refl;
  gateway_before_vms = refl;
  vms_before_plugins = refl;
  plugins_before_routes = refl;
  routes_last = refl;
  form_before_count = refl;
  count_before_entries = refl;
  first_entry_first = refl;
  least_unknown_key = refl;
  unknown_key_of_a_plugin = refl;
  unknown_key_of_a_route = refl;
  listen_first = refl;
  upstream_second = refl;
  workers_third = refl;
  deadline_fourth = refl;
  level_fifth = refl;
  tcp_last = refl;
  vm_name_first = refl;
  module_second = refl;
  configuration_third = refl;
  fuel_fourth = refl;
  pages_last = refl;
  plugin_name_first = refl;
  plugin_vm_second = refl;
  path_before_filters = refl;
  vm_name_twice = refl;
  plugin_name_twice = refl;
  filters_form = refl;
  filters_count = refl;
  filters_twice = refl;
  filters_there = refl;
  tcp_empty = refl;
  tcp_form = refl;
  tcp_capital = refl;
  tcp_count = refl;
  tcp_twice = refl;
  routes_before_tcp = refl;
  tcp_beside_a_route = refl;
  level_before_a_route = refl;
  tcp_there = refl;
}
