-- Why no configuration was loaded, as a status.
use Rattle.config_files.specs.declared.reading.LoadEnd.{LoadEnd}
use Rattle.config_files.specs.declared.reading.LoadEnd.TheVariants.{Config, Module, FileFault, OutOfMemory}
use Rattle.command_statuses.specs.Statuses.{of_load}
use Rattle.commands.specs.Scripts.{IsUnloaded}

pub unloaded : (Refuses : LoadEnd → Type 0) (end : LoadEnd) → Refuses end → IsUnloaded Refuses (of_load end)
unloaded Refuses (Config number key) h = h
unloaded Refuses (Module vm fault) h = h
unloaded Refuses FileFault h = tt
unloaded Refuses OutOfMemory h = tt
