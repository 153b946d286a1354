-- What a configuration keeps.
use Rattle.std.specs.Prelude.{◌≢◌, ℕ, ◌<◌, ◌≤◌, ◌^◌, IsTrue, List, [], length, All}
use Rattle.std.specs.List.{AllPairs}
use Rattle.gate_config.specs.declared.entries.VmEntry.{VmEntry}
use Rattle.gate_config.specs.declared.entries.PluginEntry.{PluginEntry}
use Rattle.gate_config.specs.declared.entries.RouteEntry.{RouteEntry}
use Rattle.gate_config.specs.Routes.{all_fit}

pub record IsVm (vm : VmEntry) : Type 0 where
  pub name : length vm.name ≤ 32
  pub configuration : length vm.configuration ≤ 65536
  pub fuel : (1 ≤ vm.fuel) × (vm.fuel ≤ 10 ^ 12)
  pub pages : (1 ≤ vm.pages) × (vm.pages ≤ 256)

-- a plug-in, where there are so many VMs
pub record IsPlugin (vms : ℕ) (plugin : PluginEntry) : Type 0 where
  pub name : length plugin.name ≤ 32
  pub configuration : length plugin.configuration ≤ 65536
  pub vm : plugin.vm < vms

-- a route, where there are so many plug-ins
pub record IsRoute (plugins : ℕ) (route : RouteEntry) : Type 0 where
  pub count : length route.filters ≤ 16
  pub there : All (λ filter. filter < plugins) route.filters
  pub differ : AllPairs (λ a b. a ≢ b) route.filters

pub record IsKept (workers : ℕ) (vms : List VmEntry) (plugins : List PluginEntry) (routes : List RouteEntry) : Type 0 where
  pub worker_count : (1 ≤ workers) × (workers ≤ 8)
  pub vm_count : length vms ≤ 16
  pub plugin_count : length plugins ≤ 64
  pub route_count : length routes ≤ 256
  pub all_vms : All IsVm vms
  pub all_plugins : All (IsPlugin (length vms)) plugins
  pub all_routes : All (IsRoute (length plugins)) routes
  pub vm_names : AllPairs (λ a b. a.name ≢ b.name) vms
  pub plugin_names : AllPairs (λ a b. a.name ≢ b.name) plugins
  -- so that the router has every one of them
  pub routes_fit : IsTrue (all_fit 0 routes [])
