-- Over what the generator runs: the configuration and the worlds of its workers.
use Rattle.std.specs.Prelude.{ℕ, List, [], ◌∷◌, None, Some, codes, replicate}
use Rattle.gate_base.specs.declared.level.Level.TheVariants.{Info}
use Rattle.gate_config.specs.declared.entries.VmEntry.{VmEntry}
use Rattle.gate_config.specs.Given.{Given}
use Rattle.gate_config.specs.Plain.{plain_plugin, plain_routes, plain_vm}
use Rattle.gate_io.specs.MemoryWorld.{MemoryWorld}
use Rattle.workload.specs.Events.{events_of}
use Rattle.workload.specs.Filter.{queue_filter}

-- the plain VM, which holds the filter
abbrev pub filter_vm : VmEntry
filter_vm = record (plain_vm 0) { code = Some queue_filter }

-- THE CONFIGURATION: the plain one of one VM, with the filter and four workers
abbrev pub generator_config : Given
generator_config = record {
  workers = 4;
  listen = codes "127.0.0.1:8080";
  upstream = codes "127.0.0.1:9000";
  deadline_ms = 0;
  log_level = Info;
  vms = filter_vm ∷ [];
  plugins = plain_plugin 0 ∷ [];
  routes = plain_routes 1;
  tcp = [];
}

-- the world of a worker gives its events, takes each piece whole, and fails no call; its seed is of zeros
abbrev pub world_of : (n who : ℕ) → MemoryWorld
world_of n who = record { seed = replicate 32 0; trace = []; left = events_of n who; most = None; fails = []; calls = 0; faults = 0; refused = []; sends = 0 }

-- THE FOUR WORLDS
abbrev pub worlds_of : (n : ℕ) → List MemoryWorld
worlds_of n = world_of n 1 ∷ world_of n 2 ∷ world_of n 3 ∷ world_of n 4 ∷ []
