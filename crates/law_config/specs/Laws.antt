-- The laws of what a configuration's text means.
use Rattle.std.specs.Prelude.{◌≡◌, ◌≢◌, ℕ, ◌<◌, ◌≤◌, List, [], true, false, length, All, codes, Some, None, Ok, Err}
use Rattle.std.specs.List.{AllPairs}
use Rattle.std.specs.Str.{is_utf8}
use Rattle.toml.specs.Data.{Members}
use Rattle.toml.specs.Parse.{parse_document}
use Rattle.gate_config.specs.declared.entries.PluginEntry.{PluginEntry}
use Rattle.gate_config.specs.declared.entries.RouteEntry.{RouteEntry}
use Rattle.gate_config.specs.Given.{Given}
use Rattle.gate_config.specs.Kept.{IsKept}
use Rattle.config_reader.specs.Whole.{config_of}
use Rattle.law_config.specs.Says.{Says}

-- the plug-ins of streams, beside these plug-ins and routes: at most 16, none twice, and where there are any there is no route
pub record AreStreams (plugins : List PluginEntry) (routes : List RouteEntry) (places : List ℕ) : Type 0 where
  pub count : length places ≤ 16
  pub there : All (λ place. place < length plugins) places
  pub differ : AllPairs (λ a b. a ≢ b) places
  pub alone : places ≢ [] → routes ≡ []

-- what a text of a configuration is
pub record IsWritten (text : List ℕ) (g : Given) : Type 0 where
  -- at most 1 MiB
  pub short : length text ≤ 1048576
  pub utf8 : is_utf8 text ≡ true
  pub document : Members
  pub toml : parse_document text ≡ Some document
  -- each of its keys is listed, and each value of the configuration is that of its key
  pub says : Says g document
  -- workers, fuel, pages and the numbers of entries are in their bounds, names differ, no route has a filter twice or more than 16, and the router takes each path after those before it
  pub kept : IsKept g.workers g.vms g.plugins g.routes
  pub streams : AreStreams g.plugins g.routes g.tcp

-- a text that gives a configuration says that configuration
abbrev pub TextsSayTheirConfiguration : Type 0
TextsSayTheirConfiguration = (text : List ℕ) (g : Given) → config_of text ≡ Ok g → IsWritten text g

-- no two VMs have one name, and no two plug-ins
pub record HaveNames (g : Given) : Type 0 where
  pub vms : AllPairs (λ a b. a.name ≢ b.name) g.vms
  pub plugins : AllPairs (λ a b. a.name ≢ b.name) g.plugins

-- a document says one configuration at most whose names differ
abbrev pub DocumentsSayOneConfiguration : Type 0
DocumentsSayOneConfiguration = (document : Members) (g h : Given) → Says g document → Says h document → HaveNames g → g ≡ h

-- what is refused before any table is looked at
pub record FirstRefusals : Type 0 where
  pub too_long : (text : List ℕ) → 1048576 < length text → config_of text ≡ Err (7, codes "-")
  pub no_utf8 : (text : List ℕ) → length text ≤ 1048576 → is_utf8 text ≡ false → config_of text ≡ Err (1, codes "-")
  pub no_toml : (text : List ℕ) → length text ≤ 1048576 → is_utf8 text ≡ true → parse_document text ≡ None → config_of text ≡ Err (1, codes "-")
