-- Worked examples, by hand and by docs/CONFIGURATION.md: one whole text, texts with several faults, and values at their bounds.
use Rattle.std.specs.Prelude.{◌≡◌, ℕ, List, [], ◌∷◌, true, false, None, Ok, Err, is_ok, codes}
use Rattle.gate_base.specs.declared.level.Level.TheVariants.{Info, Warn}
use Rattle.gate_config.specs.Given.{Given}
use Rattle.config_reader.specs.Whole.{config_of}

-- Two workers, two VMs, three plug-ins of which two run in one VM, a route whose filters stand neither in the order of the plug-ins nor in that of
-- their names, and one without filters. The first VM says all of its keys, the second has the defaults.
abbrev pub text : List ℕ
text = codes "[gateway]\nlisten = \"0.0.0.0:80\"\nupstream = \"10.0.0.2:8080\"\nworkers = 2\ndeadline_ms = 30000\nlog_level = \"warn\"\n\n[[vm]]\nname = \"auth\"\nmodule = \"examples/filters/deny.wasm\"\nconfiguration = \"realm=a\"\nfuel = 1000000\npages = 16\n\n[[vm]]\nname = \"count\"\nmodule = \"-\"\n\n[[plugin]]\nname = \"auth\"\nvm = \"auth\"\n\n[[plugin]]\nname = \"tally\"\nvm = \"count\"\nfail = \"open\"\n\n[[plugin]]\nname = \"audit\"\nvm = \"auth\"\nconfiguration = \"all\"\nfail = \"closed\"\n\n[[route]]\npath = \"/users/{id}\"\nfilters = [\"audit\", \"auth\", \"tally\"]\n\n[[route]]\npath = \"/health\"\n"

abbrev pub meant : Given
meant = record {
  workers = 2;
  listen = codes "0.0.0.0:80";
  upstream = codes "10.0.0.2:8080";
  deadline_ms = 30000;
  log_level = Warn;
  vms =
      record { name = codes "auth"; «module» = codes "examples/filters/deny.wasm"; configuration = codes "realm=a"; fuel = 1000000; pages = 16; code = None }
      ∷ record { name = codes "count"; «module» = codes "-"; configuration = []; fuel = 10000000; pages = 128; code = None }
      ∷ [];
  plugins =
      record { name = codes "auth"; vm = 0; configuration = []; fail_open = false }
      ∷ record { name = codes "tally"; vm = 1; configuration = []; fail_open = true }
      ∷ record { name = codes "audit"; vm = 0; configuration = codes "all"; fail_open = false }
      ∷ [];
  routes = record { path = codes "/users/{id}"; filters = 2 ∷ 0 ∷ 1 ∷ [] } ∷ record { path = codes "/health"; filters = [] } ∷ [];
  tcp = [];
}

-- Lines that are streams of bytes: one of two plug-ins, which stands after the other.
abbrev pub streams : List ℕ
streams = codes "[gateway]\ntcp = [\"tally\"]\n\n[[vm]]\nname = \"count\"\nmodule = \"-\"\n\n[[plugin]]\nname = \"audit\"\nvm = \"count\"\n\n[[plugin]]\nname = \"tally\"\nvm = \"count\"\n"

-- its configuration
abbrev pub streams_meant : Given
streams_meant = record {
  workers = 1;
  listen = codes "127.0.0.1:8080";
  upstream = codes "127.0.0.1:9000";
  deadline_ms = 0;
  log_level = Info;
  vms = record { name = codes "count"; «module» = codes "-"; configuration = []; fuel = 10000000; pages = 128; code = None } ∷ [];
  plugins =
      record { name = codes "audit"; vm = 0; configuration = []; fail_open = false }
      ∷ record { name = codes "tally"; vm = 0; configuration = []; fail_open = false }
      ∷ [];
  routes = [];
  tcp = 1 ∷ [];
}

pub record TextExample : Type 0 where
  pub whole : config_of text ≡ Ok meant
  pub tcp : config_of streams ≡ Ok streams_meant
  -- a text without a byte has the defaults
  pub empty : config_of [] ≡ Ok (record { workers = 1; listen = codes "127.0.0.1:8080"; upstream = codes "127.0.0.1:9000"; deadline_ms = 0; log_level = Info; vms = []; plugins = []; routes = []; tcp = [] })

-- a text is refused with this number at this key
abbrev pub Refuses : List ℕ → ℕ → List ℕ → Type 0
Refuses written number key = config_of written ≡ Err (number, key)

-- each text has several faults; the first in the order of docs/CONFIGURATION.md is told
pub record OrderExamples : Type 0 where
  -- before the tables
  pub no_utf8 : Refuses (255 ∷ []) 1 (codes "-")
  pub no_toml : Refuses (codes "zone = 1\nworkers\n") 1 (codes "-")
  pub key_twice : Refuses (codes "zone = 1\nzone = 2\n") 1 (codes "-")
  pub least_unknown_table : Refuses (codes "zone = 1\narea = 2\ngateway = 3\n") 3 (codes "area")
  pub unknown_table_before_gateway : Refuses (codes "gateway = 1\nzone = 2\n") 3 (codes "zone")
  -- the tables one after the other
  pub gateway_is_a_table : Refuses (codes "gateway = 1\nvm = 2\n") 4 (codes "gateway")
  pub gateway_before_vms : Refuses (codes "vm = 1\n[gateway]\nworkers = 9\n") 4 (codes "gateway.workers")
  pub vms_before_plugins : Refuses (codes "route = 1\nplugin = 1\nvm = 1\n") 4 (codes "vm")
  pub plugins_before_routes : Refuses (codes "route = 1\nplugin = 1\n") 4 (codes "plugin")
  pub routes_last : Refuses (codes "route = 1\n") 4 (codes "route")
  -- an array: its form, its length, then its entries from the first on
  pub form_before_count : Refuses (codes "vm = [{}, {}, {}, {}, {}, {}, {}, {}, {}, {}, {}, {}, {}, {}, {}, {}, 1]\n") 4 (codes "vm")
  pub count_before_entries : Refuses (codes "vm = [{}, {}, {}, {}, {}, {}, {}, {}, {}, {}, {}, {}, {}, {}, {}, {}, {}]\n") 7 (codes "vm")
  pub first_entry_first : Refuses (codes "vm = [{name = \"a\", module = \"m\"}, {name = \"b\", module = \"m\", pages = 0}, {}]\n") 4 (codes "vm.1.pages")
  -- the keys of a table: those that are not listed, then each in its order
  pub least_unknown_key : Refuses (codes "vm = [{zeta = 1, beta = 2}]\n") 3 (codes "vm.0.beta")
  pub unknown_key_of_a_plugin : Refuses (codes "plugin = [{fuel = 1}]\n") 3 (codes "plugin.0.fuel")
  pub unknown_key_of_a_route : Refuses (codes "route = [{name = \"a\"}]\n") 3 (codes "route.0.name")
  pub listen_first : Refuses (codes "[gateway]\nlog_level = 1\ndeadline_ms = -1\nworkers = 0\nupstream = 1\nlisten = 1\n") 4 (codes "gateway.listen")
  pub upstream_second : Refuses (codes "[gateway]\nlog_level = 1\ndeadline_ms = -1\nworkers = 0\nupstream = 1\n") 4 (codes "gateway.upstream")
  pub workers_third : Refuses (codes "[gateway]\nlog_level = 1\ndeadline_ms = -1\nworkers = 0\n") 4 (codes "gateway.workers")
  pub deadline_fourth : Refuses (codes "[gateway]\nlog_level = 1\ndeadline_ms = -1\n") 4 (codes "gateway.deadline_ms")
  pub level_fifth : Refuses (codes "[gateway]\ntcp = 1\nlog_level = \"loud\"\n") 4 (codes "gateway.log_level")
  pub tcp_last : Refuses (codes "vm = 1\n[gateway]\ntcp = 1\n") 4 (codes "gateway.tcp")
  pub vm_name_first : Refuses (codes "vm = [{pages = 0, fuel = 0, configuration = 1, module = \"\"}]\n") 2 (codes "vm.0.name")
  pub module_second : Refuses (codes "vm = [{name = \"a\", pages = 0, fuel = 0, configuration = 1, module = \"\"}]\n") 4 (codes "vm.0.module")
  pub configuration_third : Refuses (codes "vm = [{name = \"a\", pages = 0, fuel = 0, configuration = 1, module = \"m\"}]\n") 4 (codes "vm.0.configuration")
  pub fuel_fourth : Refuses (codes "vm = [{name = \"a\", pages = 0, fuel = 0, module = \"m\"}]\n") 4 (codes "vm.0.fuel")
  pub pages_last : Refuses (codes "vm = [{name = \"a\", pages = 257, module = \"m\"}]\n") 4 (codes "vm.0.pages")
  pub plugin_name_first : Refuses (codes "plugin = [{fail = 1, configuration = 1, vm = \"b\"}]\n") 2 (codes "plugin.0.name")
  pub plugin_vm_second : Refuses (codes "plugin = [{name = \"p\", fail = 1, configuration = 1, vm = \"b\"}]\n") 5 (codes "plugin.0.vm")
  pub path_before_filters : Refuses (codes "[[route]]\npath = \"/{a}/x\"\n[[route]]\npath = \"/{b}/x\"\nfilters = 1\n") 6 (codes "route.1.path")
  -- names
  pub vm_name_twice : Refuses (codes "vm = [{name = \"a\", module = \"m\"}, {name = \"a\"}]\n") 8 (codes "vm.1.name")
  pub plugin_name_twice : Refuses (codes "vm = [{name = \"a\", module = \"m\"}]\nplugin = [{name = \"p\", vm = \"a\"}, {name = \"p\", vm = \"b\"}]\n") 8 (codes "plugin.1.name")
  -- filters: their form, how many, one that stands twice, one that no plug-in has
  pub filters_form : Refuses (codes "route = [{path = \"/\", filters = [\"b\", \"b\", \"b\", \"b\", \"b\", \"b\", \"b\", \"b\", \"b\", \"b\", \"b\", \"b\", \"b\", \"b\", \"b\", \"b\", 1]}]\n") 4 (codes "route.0.filters")
  pub filters_count : Refuses (codes "route = [{path = \"/\", filters = [\"b\", \"b\", \"b\", \"b\", \"b\", \"b\", \"b\", \"b\", \"b\", \"b\", \"b\", \"b\", \"b\", \"b\", \"b\", \"b\", \"b\"]}]\n") 7 (codes "route.0.filters")
  pub filters_twice : Refuses (codes "route = [{path = \"/\", filters = [\"b\", \"b\"]}]\n") 8 (codes "route.0.filters")
  pub filters_there : Refuses (codes "route = [{path = \"/\", filters = [\"b\"]}]\n") 5 (codes "route.0.filters")
  -- the plug-ins of streams: their form, of which are one name at least and no route beside them, then how many, and then one that is there twice are
  -- judged with `gateway`; one that no plug-in has after the routes
  pub tcp_empty : Refuses (codes "vm = 1\n[gateway]\ntcp = []\n") 4 (codes "gateway.tcp")
  pub tcp_form : Refuses (codes "[gateway]\ntcp = [\"b\", \"b\", \"b\", \"b\", \"b\", \"b\", \"b\", \"b\", \"b\", \"b\", \"b\", \"b\", \"b\", \"b\", \"b\", \"b\", 1]\n") 4 (codes "gateway.tcp")
  pub tcp_capital : Refuses (codes "[gateway]\ntcp = [\"B\"]\n") 4 (codes "gateway.tcp")
  pub tcp_count : Refuses (codes "vm = 1\n[gateway]\ntcp = [\"b\", \"b\", \"b\", \"b\", \"b\", \"b\", \"b\", \"b\", \"b\", \"b\", \"b\", \"b\", \"b\", \"b\", \"b\", \"b\", \"b\"]\n") 7 (codes "gateway.tcp")
  pub tcp_twice : Refuses (codes "vm = 1\n[gateway]\ntcp = [\"b\", \"b\"]\n") 8 (codes "gateway.tcp")
  pub routes_before_tcp : Refuses (codes "route = 1\n[gateway]\ntcp = [\"b\"]\n") 4 (codes "route")
  pub tcp_beside_a_route : Refuses (codes "vm = 1\n[gateway]\ntcp = [\"b\", \"b\"]\n[[route]]\npath = \"/\"\n") 4 (codes "gateway.tcp")
  pub level_before_a_route : Refuses (codes "[gateway]\ntcp = [\"b\"]\nlog_level = 1\n[[route]]\npath = \"/\"\n") 4 (codes "gateway.log_level")
  pub tcp_there : Refuses (codes "route = []\n[gateway]\ntcp = [\"b\"]\n") 5 (codes "gateway.tcp")

-- a text gives a configuration
abbrev pub IsAccepted : List ℕ → Type 0
IsAccepted written = is_ok (config_of written) ≡ true

-- numbers at their bounds, which are accepted, and one past them
pub record BoundsExamples : Type 0 where
  pub most_of_gateway : IsAccepted (codes "[gateway]\nworkers = 8\ndeadline_ms = 3600000\nlisten = \"255.255.255.255:65535\"\nupstream = \"0.0.0.0:1\"\nlog_level = \"critical\"\n")
  pub no_worker : Refuses (codes "gateway.workers = 0\n") 4 (codes "gateway.workers")
  pub nine_workers : Refuses (codes "gateway.workers = 9\n") 4 (codes "gateway.workers")
  pub long_deadline : Refuses (codes "gateway.deadline_ms = 3600001\n") 4 (codes "gateway.deadline_ms")
  pub least_of_a_vm : IsAccepted (codes "vm = [{name = \"a\", module = \"m\", fuel = 1, pages = 1}]\n")
  pub most_of_a_vm : IsAccepted (codes "vm = [{name = \"abcdefghijklmnopqrstuvwxyz_-0189\", module = \"m\", fuel = 1000000000000, pages = 256}]\n")
  pub long_name : Refuses (codes "vm = [{name = \"abcdefghijklmnopqrstuvwxyz_-01890\", module = \"m\"}]\n") 4 (codes "vm.0.name")
  pub no_name : Refuses (codes "vm = [{name = \"\", module = \"m\"}]\n") 4 (codes "vm.0.name")
  pub capital : Refuses (codes "vm = [{name = \"A\", module = \"m\"}]\n") 4 (codes "vm.0.name")
  pub no_fuel : Refuses (codes "vm = [{name = \"a\", module = \"m\", fuel = 0}]\n") 4 (codes "vm.0.fuel")
  pub much_fuel : Refuses (codes "vm = [{name = \"a\", module = \"m\", fuel = 1000000000001}]\n") 4 (codes "vm.0.fuel")
  pub no_pages : Refuses (codes "vm = [{name = \"a\", module = \"m\", pages = 0}]\n") 4 (codes "vm.0.pages")
  pub other_word : Refuses (codes "vm = [{name = \"a\", module = \"m\"}]\nplugin = [{name = \"p\", vm = \"a\", fail = \"maybe\"}]\n") 4 (codes "plugin.0.fail")
