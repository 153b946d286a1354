-- What an exchange goes by, worked: which bodies its filters filter, and which route takes its target.
use Rattle.std.specs.Prelude.{◌≡◌, ℕ, ◌==◌, ◌||◌, Bool, true, false, List, [], ◌∷◌, Some, None, codes}
use Rattle.filter_host.specs.declared.host.Callback.{Callback}
use Rattle.filter_host.specs.declared.host.Callback.TheVariants as callbacks
use Rattle.exchange.specs.Heads.{path_of, route_in}
use Rattle.gate_config.specs.declared.entries.PluginEntry.{PluginEntry}
use Rattle.gate_config.specs.declared.entries.RouteEntry.{RouteEntry}
use Rattle.header_maps.specs.Headers.{Headers}
use Rattle.header_maps.specs.Operations.{request_headers}
use Rattle.worker_model.specs.Making.{bodies_of, registers_of}
use Rattle.worker_model.specs.Steps.{filters_requests, filters_responses}
use Rattle.worker_model.specs.declared.types.Bodies.{Bodies}

-- ---- BODIES

abbrev pub bodies : Bool → Bool → Bodies
bodies requests responses = record { requests = requests; responses = responses }

-- four plug-ins, of which the second filters the bodies of requests, and the fourth those of responses
abbrev pub four : List Bodies
four = bodies false false ∷ bodies true false ∷ bodies false false ∷ bodies false true ∷ []

-- the module of VM 0 exports the callback of the bodies of requests, that of VM 1 the one of responses, and both export those of heads
abbrev pub exporting : ℕ → Callback → Bool
exporting vm callbacks.Begin = false
exporting vm callbacks.ContextCreate = true
exporting vm callbacks.VmStart = true
exporting vm callbacks.Configure = true
exporting vm callbacks.Tick = true
exporting vm callbacks.QueueReady = true
exporting vm callbacks.RequestHeaders = true
exporting vm callbacks.RequestBody = vm == 0
exporting vm callbacks.RequestTrailers = true
exporting vm callbacks.ResponseHeaders = true
exporting vm callbacks.ResponseBody = vm == 1
exporting vm callbacks.ResponseTrailers = true
exporting vm callbacks.Done = true
exporting vm callbacks.Log = true
exporting vm callbacks.Delete = true
exporting vm callbacks.CallAnswered = true
exporting vm callbacks.NewConnection = true
exporting vm callbacks.DownstreamData = true
exporting vm callbacks.UpstreamData = true
exporting vm callbacks.DownstreamClose = true
exporting vm callbacks.UpstreamClose = true

-- the machines, of which nothing else is asked; the modules of VMs 0 and 1 register queues
abbrev pub exported_in : Unit {0} → ℕ → Callback → Bool
exported_in host vm name = exporting vm name

abbrev pub registering_in : Unit {0} → ℕ → Bool
registering_in host vm = vm == 0 || vm == 1

abbrev pub plugin_on : ℕ → PluginEntry
plugin_on vm = record { name = []; vm = vm; configuration = []; fail_open = false }

pub record FilteringExamples : Type 0 where
  -- one of the filters does, wherever it stands among them
  pub last_of_two : filters_requests four (0 ∷ 1 ∷ []) ≡ true
  pub first_of_two : filters_requests four (1 ∷ 0 ∷ []) ≡ true
  pub alone : filters_requests four (1 ∷ []) ≡ true
  pub none_of_them : filters_requests four (0 ∷ 2 ∷ 3 ∷ []) ≡ false
  pub no_filter : filters_requests four [] ≡ false
  pub responses : filters_responses four (3 ∷ 0 ∷ []) ≡ true
  pub responses_last : filters_responses four (0 ∷ 1 ∷ 2 ∷ 3 ∷ []) ≡ true
  pub no_responses : filters_responses four (0 ∷ 1 ∷ 2 ∷ []) ≡ false
  pub no_filter_back : filters_responses four [] ≡ false
  -- a plug-in filters what the module of its own VM does: the plug-ins' places are not those of the VMs
  pub by_vm : bodies_of exported_in registering_in tt (plugin_on 1 ∷ plugin_on 0 ∷ plugin_on 1 ∷ plugin_on 2 ∷ []) ≡
      bodies false true ∷ bodies true false ∷ bodies false true ∷ bodies false false ∷ []
  -- told of items is a VM whose module registers queues and which a plug-in names
  pub told : registers_of exported_in registering_in (plugin_on 1 ∷ []) tt 2 ≡ false ∷ true ∷ []
  pub all_told : registers_of exported_in registering_in (plugin_on 2 ∷ plugin_on 1 ∷ plugin_on 0 ∷ []) tt 3 ≡ true ∷ true ∷ false ∷ []
  pub nobody : registers_of exported_in registering_in [] tt 2 ≡ false ∷ false ∷ []

-- ---- TARGETS: the query, after the first `?`, is no part of the path by which a route is looked for

abbrev pub asks_for : List ℕ → Headers
asks_for target = request_headers (codes "GET") (codes "http") (codes "a") target

abbrev pub route : List ℕ → RouteEntry
route path = record { path = path; filters = [] }

-- `/admin`, and every path that begins with `/`
abbrev pub routes : List RouteEntry
routes = route (codes "/admin") ∷ route (codes "/{*rest}") ∷ []

pub record TargetExamples : Type 0 where
  pub query : path_of (asks_for (codes "/a?b?/c")) ≡ codes "/a"
  pub empty_query : path_of (asks_for (codes "/a?")) ≡ codes "/a"
  pub slash : path_of (asks_for (codes "/")) ≡ codes "/"
  pub slash_query : path_of (asks_for (codes "/?/b")) ≡ codes "/"
  pub longer : path_of (asks_for (codes "/a/b")) ≡ codes "/a/b"
  pub star : path_of (asks_for (codes "*")) ≡ codes "*"
  pub literal : route_in routes (path_of (asks_for (codes "/admin"))) ≡ Some 0
  pub literal_query : route_in routes (path_of (asks_for (codes "/admin?x"))) ≡ Some 0
  pub other_query : route_in routes (path_of (asks_for (codes "/b?/admin"))) ≡ Some 1
  pub no_route : route_in routes (path_of (asks_for (codes "*"))) ≡ None
