-- Worked examples: addresses, and texts with what they give.
use Rattle.std.specs.Prelude.{◌≡◌, ℕ, List, [], ◌∷◌, Bool, true, false, None, Ok, Err, codes}
use Rattle.toml.specs.Parse.{parse_document}
use Rattle.gate_base.specs.declared.level.Level.TheVariants.{Info, Warn}
use Rattle.config_reader.specs.Address.{is_address}
use Rattle.config_reader.specs.Whole.{Judged, judge}

pub record AddressExamples : Type 0 where
  pub usual : is_address (codes "127.0.0.1:8080") ≡ true
  pub least : is_address (codes "0.0.0.0:1") ≡ true
  pub most : is_address (codes "255.255.255.255:65535") ≡ true
  pub octet_past : is_address (codes "256.0.0.0:1") ≡ false
  pub port_past : is_address (codes "1.2.3.4:65536") ≡ false
  pub no_port : is_address (codes "1.2.3.4") ≡ false
  pub port_zero : is_address (codes "1.2.3.4:0") ≡ false
  pub leading_zero : is_address (codes "01.2.3.4:5") ≡ false
  pub leading_zero_in_port : is_address (codes "1.2.3.4:080") ≡ false
  pub three_numbers : is_address (codes "1.2.3:4") ≡ false
  pub five_numbers : is_address (codes "1.2.3.4.5:6") ≡ false
  pub empty_octet : is_address (codes "1..3.4:5") ≡ false
  pub long_port : is_address (codes "1.2.3.4:10000000000000000000001") ≡ false
  pub blank : is_address (codes " 1.2.3.4:5") ≡ false
  pub name : is_address (codes "localhost:80") ≡ false
  pub empty : is_address [] ≡ false

-- what a text gives
abbrev pub gives : List ℕ → Judged
gives text = judge (parse_document text)

pub record ConfigurationExamples : Type 0 where
  pub empty : gives [] ≡ Ok (record { workers = 1; listen = codes "127.0.0.1:8080"; upstream = codes "127.0.0.1:9000"; deadline_ms = 0; log_level = Info; vms = []; plugins = []; routes = []; tcp = [] })
  pub missing : gives (codes "[[vm]]\nname = \"a\"\n") ≡ Err (2, codes "vm.0.module")
  pub least_unknown : gives (codes "[gateway]\nworkers = 9\nzeta = 1\nbeta = 2\n") ≡ Err (3, codes "gateway.beta")
  pub past_the_bound : gives (codes "[gateway]\nworkers = 9\n") ≡ Err (4, codes "gateway.workers")
  pub repeated : gives (codes "vm = [{name = \"a\", module = \"m\"}, {name = \"a\", module = \"m\"}]\n") ≡ Err (8, codes "vm.1.name")
  pub no_such_vm : gives (codes "[[vm]]\nname = \"a\"\nmodule = \"m\"\n[[plugin]]\nname = \"p\"\nvm = \"b\"\n") ≡ Err (5, codes "plugin.0.vm")
  pub conflict : gives (codes "[[route]]\npath = \"/{a}/x\"\n[[route]]\npath = \"/{b}/x\"\nfilters = 1\n") ≡ Err (6, codes "route.1.path")
  -- streams of bytes: their plug-ins by name, in the order of the list; without routes
  pub streams : gives (codes "[gateway]\ntcp = [\"q\", \"p\"]\n[[vm]]\nname = \"a\"\nmodule = \"m\"\n[[plugin]]\nname = \"p\"\nvm = \"a\"\n[[plugin]]\nname = \"q\"\nvm = \"a\"\n")
      ≡ Ok (record {
        workers = 1;
        listen = codes "127.0.0.1:8080";
        upstream = codes "127.0.0.1:9000";
        deadline_ms = 0;
        log_level = Info;
        vms = record { name = codes "a"; «module» = codes "m"; configuration = []; fuel = 10000000; pages = 128; code = None } ∷ [];
        plugins =
            record { name = codes "p"; vm = 0; configuration = []; fail_open = false }
            ∷ record { name = codes "q"; vm = 0; configuration = []; fail_open = false }
            ∷ [];
        routes = [];
        tcp = 1 ∷ 0 ∷ [];
      })
  pub no_such_plugin : gives (codes "[gateway]\ntcp = [\"q\"]\n") ≡ Err (5, codes "gateway.tcp")
  pub no_text : gives (codes "[gateway\n") ≡ Err (1, codes "-")
  pub accepted : gives (codes "[gateway]\nlog_level = \"warn\"\n[[vm]]\nname = \"a\"\nmodule = \"m\"\nfuel = 7\n[[plugin]]\nname = \"p\"\nvm = \"a\"\nfail = \"open\"\n[[route]]\npath = \"/\"\nfilters = [\"p\"]\n")
      ≡ Ok (record {
        workers = 1;
        listen = codes "127.0.0.1:8080";
        upstream = codes "127.0.0.1:9000";
        deadline_ms = 0;
        log_level = Warn;
        vms = record { name = codes "a"; «module» = codes "m"; configuration = []; fuel = 7; pages = 128; code = None } ∷ [];
        plugins = record { name = codes "p"; vm = 0; configuration = []; fail_open = true } ∷ [];
        routes = record { path = codes "/"; filters = 0 ∷ [] } ∷ [];
        tcp = [];
      })
