-- What a script over filters is played over.
use Rattle.gate_config.specs.declared.config.Config.{Config}
use Rattle.vm_machines.specs.Making.{slots_from}
use Rattle.command_replay.specs.Replay.{Setup, setup_of}
use Rattle.vm_host.specs.declared.slots.Vms.{Vms}
use Rattle.vm_host.specs.Slots.{calling, exported_in, registering_in}

-- the machines of a configuration's modules, on which nothing has run
abbrev pub machines_of : Config → Vms
machines_of config = record { slots = slots_from 0 config.vms }

-- the gateway with these machines
unfoldable pub filtered : Config → Setup Vms
filtered config = setup_of calling exported_in registering_in config (machines_of config)
