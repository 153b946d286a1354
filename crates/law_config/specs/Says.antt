-- What a document in TOML says of a configuration, key by key as docs/CONFIGURATION.md lists them: a relation between the tables that the crate
-- `toml` reads and a configuration. Nothing of how a configuration is read stands here.
use Rattle.std.specs.Prelude.{◌≡◌, ◌≢◌, ℕ, pos, List, [], ◌∷◌, Option, Some, None, Contains, slice_get, codes, if◌then◌else◌}
use Rattle.toml.specs.Data.{Data, string, integer, array, table, Items, no_items, item, Members, no_members, member, get_member}
use Rattle.gate_base.specs.declared.level.Level.{Level}
use Rattle.gate_base.specs.declared.level.Level.TheVariants.{Trace, Debug, Info, Warn, Error, Critical}
use Rattle.gate_config.specs.declared.entries.VmEntry.{VmEntry}
use Rattle.gate_config.specs.declared.entries.PluginEntry.{PluginEntry}
use Rattle.gate_config.specs.declared.entries.RouteEntry.{RouteEntry}
use Rattle.gate_config.specs.Given.{Given}

-- ---- one key of a table

-- each key that the table has is one of these
abbrev pub HasOnly : List (List ℕ) → Members → Type 0
HasOnly keys no_members = Unit {0}
HasOnly keys (member key d ms) = Contains keys key × HasOnly keys ms

-- the key is there, and its value is this text
abbrev pub IsText : Members → List ℕ → List ℕ → Type 0
IsText ms key value = get_member key ms ≡ Some (string value)

-- what is there is this text; where nothing is, the value is the default
abbrev pub TextOr : List ℕ → List ℕ → Option Data → Type 0
TextOr default value None = value ≡ default
TextOr default value (Some d) = d ≡ string value

-- the same of a number
abbrev pub NumberOr : ℕ → ℕ → Option Data → Type 0
NumberOr default value None = value ≡ default
NumberOr default value (Some d) = d ≡ integer (pos value)

-- the key's value is this text, and where the key is missing it is the default
abbrev pub IsTextOr : List ℕ → Members → List ℕ → List ℕ → Type 0
IsTextOr default ms key value = TextOr default value (get_member key ms)

abbrev pub IsNumberOr : ℕ → Members → List ℕ → ℕ → Type 0
IsNumberOr default ms key value = NumberOr default value (get_member key ms)

-- ---- `gateway`

abbrev pub level_word : Level → List ℕ
level_word Trace = codes "trace"
level_word Debug = codes "debug"
level_word Info = codes "info"
level_word Warn = codes "warn"
level_word Error = codes "error"
level_word Critical = codes "critical"

pub record GatewaySays (g : Given) (ms : Members) : Type 0 where
  pub keys : HasOnly (codes "listen" ∷ codes "upstream" ∷ codes "workers" ∷ codes "deadline_ms" ∷ codes "log_level" ∷ codes "tcp" ∷ []) ms
  pub listen : IsTextOr (codes "127.0.0.1:8080") ms (codes "listen") g.listen
  pub upstream : IsTextOr (codes "127.0.0.1:9000") ms (codes "upstream") g.upstream
  pub workers : IsNumberOr 1 ms (codes "workers") g.workers
  pub deadline_ms : IsNumberOr 0 ms (codes "deadline_ms") g.deadline_ms
  pub log_level : IsTextOr (codes "info") ms (codes "log_level") (level_word g.log_level)

-- what is there is a table of which this holds; where nothing is, it holds of a table without keys
abbrev pub TableOr : (Members → Type 0) → Option Data → Type 0
TableOr P None = P no_members
TableOr P (Some d) = (ms : Members) × (d ≡ table ms) × P ms

-- ---- the arrays of tables

-- so many tables as entries, and of each table with its entry this holds
abbrev pub EachSays : {X : Type 0} → (X → Members → Type 0) → List X → Items → Type 0
EachSays P [] no_items = Unit {0}
EachSays P [] (item d ds) = ⊥
EachSays P (x ∷ xs) no_items = ⊥
EachSays P (x ∷ xs) (item d ds) = ((ms : Members) × (d ≡ table ms) × P x ms) × EachSays P xs ds

-- what is there is an array of such tables; where nothing is, there are no entries
abbrev pub Entries : {X : Type 0} → (X → Members → Type 0) → List X → Option Data → Type 0
Entries P xs None = xs ≡ []
Entries P xs (Some d) = (ds : Items) × (d ≡ array ds) × EachSays P xs ds

-- a table of `vm`. Its module is read later, from the file of that path
pub record VmSays (vm : VmEntry) (ms : Members) : Type 0 where
  pub keys : HasOnly (codes "name" ∷ codes "module" ∷ codes "configuration" ∷ codes "fuel" ∷ codes "pages" ∷ []) ms
  pub name : IsText ms (codes "name") vm.name
  pub path : IsText ms (codes "module") vm.«module»
  pub configuration : IsTextOr [] ms (codes "configuration") vm.configuration
  pub fuel : IsNumberOr 10000000 ms (codes "fuel") vm.fuel
  pub pages : IsNumberOr 128 ms (codes "pages") vm.pages
  pub no_code : vm.code ≡ None

-- a table of `plugin`, beside these VMs: its VM is the one there of the name that `vm` tells
pub record PluginSays (vms : List VmEntry) (plugin : PluginEntry) (ms : Members) : Type 0 where
  pub keys : HasOnly (codes "name" ∷ codes "vm" ∷ codes "configuration" ∷ codes "fail" ∷ []) ms
  pub name : IsText ms (codes "name") plugin.name
  pub vm : (vm : VmEntry) × (slice_get vms plugin.vm ≡ Some vm) × IsText ms (codes "vm") vm.name
  pub configuration : IsTextOr [] ms (codes "configuration") plugin.configuration
  pub fail : IsTextOr (codes "closed") ms (codes "fail") (if plugin.fail_open then codes "open" else codes "closed")

-- so many filters as names, and each filter is the plug-in of the name in its place
abbrev pub EachNamed : List PluginEntry → List ℕ → Items → Type 0
EachNamed plugins [] no_items = Unit {0}
EachNamed plugins [] (item d ds) = ⊥
EachNamed plugins (n ∷ ns) no_items = ⊥
EachNamed plugins (n ∷ ns) (item d ds) = ((plugin : PluginEntry) × (slice_get plugins n ≡ Some plugin) × (d ≡ string plugin.name)) × EachNamed plugins ns ds

abbrev pub FiltersOr : List PluginEntry → List ℕ → Option Data → Type 0
FiltersOr plugins filters None = filters ≡ []
FiltersOr plugins filters (Some d) = (ds : Items) × (d ≡ array ds) × EachNamed plugins filters ds

-- a table of `route`, beside these plug-ins
pub record RouteSays (plugins : List PluginEntry) (route : RouteEntry) (ms : Members) : Type 0 where
  pub keys : HasOnly (codes "path" ∷ codes "filters" ∷ []) ms
  pub path : IsText ms (codes "path") route.path
  pub filters : FiltersOr plugins route.filters (get_member (codes "filters") ms)

-- at least one where names are there, and none where they are not
abbrev pub NamesOr : List PluginEntry → List ℕ → Option Data → Type 0
NamesOr plugins places None = places ≡ []
NamesOr plugins places (Some d) = FiltersOr plugins places (Some d) × (places ≢ [])

-- `tcp` of a table `gateway`, beside these plug-ins: those of the names there, in their order; without the key there are none, and lines are HTTP
abbrev pub TcpSays : List PluginEntry → List ℕ → Members → Type 0
TcpSays plugins places ms = NamesOr plugins places (get_member (codes "tcp") ms)

-- ---- the whole

-- THE DOCUMENT SAYS THIS CONFIGURATION
pub record Says (g : Given) (ms : Members) : Type 0 where
  pub keys : HasOnly (codes "gateway" ∷ codes "vm" ∷ codes "plugin" ∷ codes "route" ∷ []) ms
  pub gateway : TableOr (GatewaySays g) (get_member (codes "gateway") ms)
  pub vms : Entries VmSays g.vms (get_member (codes "vm") ms)
  pub plugins : Entries (PluginSays g.vms) g.plugins (get_member (codes "plugin") ms)
  pub routes : Entries (RouteSays g.plugins) g.routes (get_member (codes "route") ms)
  pub tcp : TableOr (TcpSays g.plugins g.tcp) (get_member (codes "gateway") ms)
