-- What a worker is between two turns.
use Rattle.std.specs.Prelude.{ℕ, Bool, List, length}
use Rattle.gate_config.specs.declared.config.Config.{Config}
use Rattle.gate_io.specs.declared.event.Sent.{Sent}
use Rattle.worker_model.specs.declared.types.Bodies.{Bodies}
use Rattle.worker_model.specs.Plan.{Plan}
use Rattle.worker_model.specs.Steps.{Both}

-- what a worker is made with, and what its machines say of themselves: which bodies each plug-in filters, and which VMs are told of items
pub record Setting : Type 0 where
  pub config : Config
  pub who : ℕ
  pub seed : List ℕ
  pub bodies : List Bodies
  pub registers : List Bool

-- what its turns go by
abbrev pub rules_of : Setting → Plan
rules_of setting = record {
  routes = setting.config.routes;
  plugins = setting.config.plugins;
  vms = length setting.config.vms;
  deadline = setting.config.deadline_ms;
  bodies = setting.bodies;
  registers = setting.registers;
  tcp = setting.config.tcp;
}

-- between two turns: what it was made with; its machines, its lines and its contexts; what waits until its world takes it; and whether it took
-- an event
pub record Standing (H : Type 0) : Type 0 where
  pub setting : Setting
  pub state : Both H
  pub waiting : List Sent
  pub took : Bool
