-- Worked examples: a route with four filters, each of a VM of its own.
use Rattle.std.specs.Prelude.{◌≡◌, ℕ, Bool, true, false, List, [], ◌∷◌, map, None, Some, codes}
use Rattle.exchange.specs.declared.types.Exchange.{Exchange}
use Rattle.exchange.specs.declared.types.Filter.{Filter}
use Rattle.exchange.specs.Heads.{sent_head}
use Rattle.filter_chain.specs.declared.stage.Stage.{Stage}
use Rattle.gate_config.specs.declared.entries.PluginEntry.{PluginEntry}
use Rattle.header_maps.specs.Operations.{request_headers}
use Rattle.h1_model.specs.Head.{Head}
use Rattle.worker_model.specs.Plan.{Plan}
use Rattle.worker_model.specs.Steps.{exchange_for, exchange_with_stages}
use Rattle.law_asked.specs.Filters.{Chosen}

abbrev pub plugin : List ℕ → ℕ → Bool → PluginEntry
plugin name vm opens = record { name = name; vm = vm; configuration = []; fail_open = opens }

-- plug-ins `a` to `d` of VMs 0 to 3; whether `c` fails open; the others fail closed
abbrev pub plugins : Bool → List PluginEntry
plugins opens = plugin (codes "a") 0 false ∷ plugin (codes "b") 1 false ∷ plugin (codes "c") 2 opens ∷ plugin (codes "d") 3 false ∷ []

abbrev pub all_four : List ℕ
all_four = 0 ∷ 1 ∷ 2 ∷ 3 ∷ []

-- one route, with all four
abbrev pub plan : Bool → Plan
plan opens = record { routes = record { path = codes "/"; filters = all_four } ∷ []; plugins = plugins opens; vms = 4; deadline = 0; bodies = []; registers = []; tcp = [] }

-- `GET / HTTP/1.1`, `Host: a`
abbrev pub get : Head
get = sent_head (request_headers (codes "GET") (codes "http") (codes "a") (codes "/")) []

abbrev pub begun : Bool → List ℕ → Exchange
begun opens dead = exchange_for (plan opens) 0 0 dead get (Some 0)

abbrev pub plugins_in : List Filter → List ℕ
plugins_in filters = map (λ (f : Filter). f.plugin) filters

abbrev pub filter_of : ℕ → ℕ → Filter
filter_of place context = record { plugin = place; vm = place; fails_open = true; created = true; context = context }

-- the same exchange, once the contexts of its filters were made
abbrev pub made : Exchange
made = record (begun true []) { filters = filter_of 0 2 ∷ filter_of 1 3 ∷ filter_of 2 4 ∷ filter_of 3 5 ∷ [] }

abbrev pub contexts_in : List Stage → List ℕ
contexts_in stages = map (λ (s : Stage). s.context) stages

pub record FilterExamples : Type 0 where
  -- all four, in order
  pub all : plugins_in (begun true []).filters ≡ all_four
  pub served : (begun false []).refusal ≡ None
  -- the VM of the third is dead: it is left out where it fails open, and else the exchange is refused
  pub without_third : plugins_in (begun true (2 ∷ [])).filters ≡ 0 ∷ 1 ∷ 3 ∷ []
  pub opens : (begun true (2 ∷ [])).refusal ≡ None
  pub closes : (begun false (2 ∷ [])).refusal ≡ Some 503
  -- the request passes them in order, the response in reverse; where the VM of the third died since, it has no stage
  pub up : contexts_in (exchange_with_stages [] made).request ≡ 2 ∷ 3 ∷ 4 ∷ 5 ∷ []
  pub down : contexts_in (exchange_with_stages [] made).response ≡ 5 ∷ 4 ∷ 3 ∷ 2 ∷ []
  pub up_without : contexts_in (exchange_with_stages (2 ∷ []) made).request ≡ 2 ∷ 3 ∷ 5 ∷ []
  pub down_without : contexts_in (exchange_with_stages (2 ∷ []) made).response ≡ 5 ∷ 3 ∷ 2 ∷ []
  -- the first three are not the filters of the route, nor are they in another order
  pub no_three : Chosen (plugins true) [] all_four (filter_of 0 0 ∷ filter_of 1 0 ∷ filter_of 2 0 ∷ []) → ⊥
  pub no_reverse : Chosen (plugins true) [] all_four (filter_of 3 0 ∷ filter_of 2 0 ∷ filter_of 1 0 ∷ filter_of 0 0 ∷ []) → ⊥
