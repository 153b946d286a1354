-- A worker that has done nothing.
use Rattle.std.specs.Prelude.{ℕ, zero, suc, ◌==◌, Bool, false, ◌&&◌, List, [], ◌∷◌, ◌++◌, length, map, None}
use Rattle.std.specs.List.{list_any}
use Rattle.contexts.specs.declared.parts.Contexts.{Contexts}
use Rattle.contexts.specs.Making.{no_contexts, with_vm, with_plugin}
use Rattle.filter_host.specs.declared.host.Callback.{Callback}
use Rattle.filter_host.specs.declared.host.Callback.TheVariants.{RequestBody, ResponseBody}
use Rattle.gate_config.specs.declared.config.Config.{Config}
use Rattle.gate_config.specs.declared.entries.VmEntry.{VmEntry}
use Rattle.gate_config.specs.declared.entries.PluginEntry.{PluginEntry}
use Rattle.worker_model.specs.Room.{Room}
use Rattle.worker_model.specs.declared.types.Bodies.{Bodies}
use Rattle.worker_model.specs.State.{Setting, Standing}
use Rattle.worker_model.specs.Steps.{both}
use Rattle.worker_model.specs.Turn.{first_vms}

abbrev pub with_vms : Contexts → List VmEntry → Contexts
with_vms h [] = h
with_vms h (v ∷ vms) = with_vms (with_vm v.name v.configuration h) vms

abbrev pub with_plugins : Contexts → List PluginEntry → Contexts
with_plugins h [] = h
with_plugins h (p ∷ plugins) = with_plugins (with_plugin p.vm p.name p.configuration h) plugins

-- the contexts of a configuration, before any context is drawn
abbrev pub contexts_of : Config → List ℕ → Contexts
contexts_of config seed = with_plugins (with_vms (no_contexts config.log_level seed) config.vms) config.plugins

-- no line is open, and no VM has started
abbrev pub first_room : Config → List ℕ → Room
first_room config seed = record {
  lines = [];
  hub = record { moment = 0; contexts = contexts_of config seed; sent = [] };
  reading = None;
  jobs = [];
  agenda = [];
  waits = [];
  dead = [];
  is_begun = false;
  calls = [];
  tcp = [];
}

-- whether a plug-in is run by a VM
abbrev pub runs_on : ℕ → PluginEntry → Bool
runs_on vm p = p.vm == vm

module _ {H : Type 0} (exported : H → ℕ → Callback → Bool) (registering : H → ℕ → Bool) where
  -- which bodies the plug-ins filter
  abbrev pub bodies_by : H → PluginEntry → Bodies
  bodies_by host p = record { requests = exported host p.vm RequestBody; responses = exported host p.vm ResponseBody }

  abbrev pub bodies_of : H → List PluginEntry → List Bodies
  bodies_of host plugins = map (bodies_by host) plugins

  -- whether a VM is told of items: a plug-in names it, without which it never starts, and its module registers queues
  abbrev pub is_told : List PluginEntry → H → ℕ → Bool
  is_told plugins host n = list_any (runs_on n) plugins && registering host n

  -- which of the first so many VMs are told of items
  abbrev pub registers_of : List PluginEntry → H → ℕ → List Bool
  registers_of plugins host zero = []
  registers_of plugins host (suc n) = registers_of plugins host n ++ is_told plugins host n ∷ []

  abbrev pub setting_of : Config → ℕ → List ℕ → H → Setting
  setting_of config who seed host = record {
    config = config;
    who = who;
    seed = seed;
    bodies = bodies_of host config.plugins;
    registers = registers_of config.plugins host (first_vms (length config.vms));
  }

  -- what a worker is made as
  abbrev pub new_worker : Config → ℕ → List ℕ → H → Standing H
  new_worker config who seed host = record {
    setting = setting_of config who seed host;
    state = both host (first_room config seed);
    waiting = [];
    took = false;
  }
