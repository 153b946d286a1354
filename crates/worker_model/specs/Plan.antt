-- What turns go by, of a configuration and of what its machines say of themselves.
use Rattle.std.specs.Prelude.{ℕ, Bool, List, length}
use Rattle.gate_config.specs.declared.entries.PluginEntry.{PluginEntry}
use Rattle.gate_config.specs.declared.entries.RouteEntry.{RouteEntry}
use Rattle.worker_model.specs.declared.types.Bodies.{Bodies}
use Rattle.worker_model.specs.declared.types.Rules.{Rules}

-- the routes, the plug-ins, how many VMs there are, for how many milliseconds a response is waited for (0 is for ever), which bodies each
-- plug-in filters, which VMs register queues, and the plug-ins of streams of bytes (none where the lines are HTTP)
pub record Plan : Type 0 where
  pub routes : List RouteEntry
  pub plugins : List PluginEntry
  pub vms : ℕ
  pub deadline : ℕ
  pub bodies : List Bodies
  pub registers : List Bool
  pub tcp : List ℕ

abbrev pub plan_of : Rules → Plan
plan_of rules = record {
  routes = rules.config.routes;
  plugins = rules.config.plugins;
  vms = length rules.config.vms;
  deadline = rules.config.deadline_ms;
  bodies = rules.bodies;
  registers = rules.registers;
  tcp = rules.config.tcp;
}
