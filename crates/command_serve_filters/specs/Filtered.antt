-- What serving with filters comes to.
use Rattle.std.specs.Prelude.{ℕ, List, Option}
use Rattle.fleet.specs.Lives.{first_of}
use Rattle.gate_config.specs.declared.config.Config.{Config}
use Rattle.vm_machines.specs.Making.{slots_from}
use Rattle.command_serve.specs.Serving.{Eyes, Seen, Serves, settings_of}
use Rattle.command_serve.specs.declared.running.ServeEnd.{ServeEnd}
use Rattle.vm_host.specs.Slots.{calling, exported_in, registering_in}

-- serving by a configuration, each worker of which has the machines of its modules
unfoldable pub ServesFiltered : {W : Type 0} → Eyes W → Config → Option ℕ → ServeEnd → (site after : Seen W) → (old new : Option (List ℕ)) → Type 0
ServesFiltered eyes config stop_after end site after old new =
    Serves eyes calling (first_of exported_in registering_in config (record { slots = slots_from 0 config.vms })) config (settings_of config stop_after) end site after old new
