-- What a configuration says, without its router, and what one more entry makes of it.
use Rattle.std.specs.Prelude.{ℕ, zero, suc, List, [], ◌∷◌, ◌++◌, Some}
use Rattle.gate_base.specs.declared.level.Level.{Level}
use Rattle.wasm_syntax.specs.declared.module.Module.{Module}
use Rattle.gate_config.specs.declared.config.Config.{Config}
use Rattle.gate_config.specs.declared.entries.VmEntry.{VmEntry}
use Rattle.gate_config.specs.declared.entries.PluginEntry.{PluginEntry}
use Rattle.gate_config.specs.declared.entries.RouteEntry.{RouteEntry}

pub record Given : Type 0 where
  pub workers : ℕ
  pub listen : List ℕ
  pub upstream : List ℕ
  pub deadline_ms : ℕ
  pub log_level : Level
  pub vms : List VmEntry
  pub plugins : List PluginEntry
  pub routes : List RouteEntry
  pub tcp : List ℕ

abbrev pub given : Config → Given
given c = record { workers = c.workers; listen = c.listen; upstream = c.upstream; deadline_ms = c.deadline_ms; log_level = c.log_level; vms = c.vms; plugins = c.plugins; routes = c.routes; tcp = c.tcp }

-- without VMs, plug-ins and routes, and of HTTP
abbrev pub bare : ℕ → List ℕ → List ℕ → ℕ → Level → Given
bare workers listen upstream deadline_ms log_level = record { workers = workers; listen = listen; upstream = upstream; deadline_ms = deadline_ms; log_level = log_level; vms = []; plugins = []; routes = []; tcp = [] }

-- with one more entry after the others
abbrev pub with_vm : VmEntry → Given → Given
with_vm vm g = record g { vms = g.vms ++ vm ∷ [] }

abbrev pub with_plugin : PluginEntry → Given → Given
with_plugin plugin g = record g { plugins = g.plugins ++ plugin ∷ [] }

abbrev pub with_entry : RouteEntry → Given → Given
with_entry route g = record g { routes = g.routes ++ route ∷ [] }

abbrev pub route_with : List ℕ → List ℕ → RouteEntry
route_with path filters = record { path = path; filters = filters }

-- the VM of this number holds this module, and the others are as before
abbrev pub holding : ℕ → Module → List VmEntry → List VmEntry
holding n code [] = []
holding zero code (vm ∷ vms) = record vm { code = Some code } ∷ vms
holding (suc n) code (vm ∷ vms) = vm ∷ holding n code vms

abbrev pub with_code : ℕ → Module → Given → Given
with_code n code g = record g { vms = holding n code g.vms }
