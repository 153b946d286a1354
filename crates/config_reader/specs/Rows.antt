-- The keys of each table, in the order in which they are judged.
use Rattle.std.specs.Prelude.{ℕ, List, [], ◌∷◌, Bool, codes}
use Rattle.config_reader.specs.declared.keys.KeyKind.{KeyKind}
use Rattle.config_reader.specs.declared.keys.KeyKind.TheVariants as kind
use Rattle.config_reader.specs.declared.keys.Key.{Key}
use Rattle.config_reader.specs.declared.keys.Absent.{Absent}
use Rattle.config_reader.specs.declared.keys.Absent.TheVariants as absent

-- what a key is where it is missing
pub data Absence : Type 0 where
  needed : Absence
  number : ℕ → Absence
  text : List ℕ → Absence
  no_names : Absence

abbrev pub absence_of : Absent → Absence
absence_of absent.Refused = needed
absence_of (absent.Number n) = number n
absence_of (absent.Text t) = text t.now
absence_of absent.NoNames = no_names

pub record Row : Type 0 where
  pub name : List ℕ
  pub kind : KeyKind
  pub absence : Absence

abbrev pub row_of : Key → Row
row_of k = record { name = k.name.now; kind = k.kind; absence = absence_of k.absent }

abbrev pub row : List ℕ → KeyKind → Absence → Row
row name what absence = record { name = name; kind = what; absence = absence }

-- ---- `gateway`

abbrev pub listen : Row
listen = row (codes "listen") kind.Address (text (codes "127.0.0.1:8080"))

abbrev pub upstream : Row
upstream = row (codes "upstream") kind.Address (text (codes "127.0.0.1:9000"))

abbrev pub workers : Row
workers = row (codes "workers") (kind.Number 1 8) (number 1)

abbrev pub deadline_ms : Row
deadline_ms = row (codes "deadline_ms") (kind.Number 0 3600000) (number 0)

abbrev pub log_level : Row
log_level = row (codes "log_level") kind.Level (text (codes "info"))

-- the plug-ins of streams of bytes, whether or not there are routes; without the key, lines are HTTP
abbrev pub tcp : (has_routes : Bool) → Row
tcp has_routes = row (codes "tcp") (kind.Streams has_routes) no_names

-- the keys of `gateway`, whether or not there are routes
abbrev pub gateway_keys : (has_routes : Bool) → List Row
gateway_keys has_routes = listen ∷ upstream ∷ workers ∷ deadline_ms ∷ log_level ∷ tcp has_routes ∷ []

-- ---- `vm`

abbrev pub vm_name : Row
vm_name = row (codes "name") kind.NewVm needed

abbrev pub vm_module : Row
vm_module = row (codes "module") (kind.Text 1 4096) needed

abbrev pub configuration : Row
configuration = row (codes "configuration") (kind.Text 0 65536) (text [])

abbrev pub fuel : Row
fuel = row (codes "fuel") (kind.Number 1 1000000000000) (number 10000000)

abbrev pub pages : Row
pages = row (codes "pages") (kind.Number 1 256) (number 128)

abbrev pub vm_keys : List Row
vm_keys = vm_name ∷ vm_module ∷ configuration ∷ fuel ∷ pages ∷ []

-- ---- `plugin`

abbrev pub plugin_name : Row
plugin_name = row (codes "name") kind.NewPlugin needed

abbrev pub plugin_vm : Row
plugin_vm = row (codes "vm") kind.SomeVm needed

abbrev pub fail : Row
fail = row (codes "fail") kind.OpenOrClosed (text (codes "closed"))

abbrev pub plugin_keys : List Row
plugin_keys = plugin_name ∷ plugin_vm ∷ configuration ∷ fail ∷ []

-- ---- `route`

abbrev pub path : Row
path = row (codes "path") kind.Path needed

abbrev pub filters : Row
filters = row (codes "filters") kind.Filters no_names

abbrev pub route_keys : List Row
route_keys = path ∷ filters ∷ []

-- ---- the tables at the top

abbrev pub top_keys : List Row
top_keys = row (codes "gateway") kind.Tables no_names ∷ row (codes "vm") kind.Tables no_names ∷ row (codes "plugin") kind.Tables no_names ∷ row (codes "route") kind.Tables no_names ∷ []
