-- The number of a status, and its line on standard error.
use Rattle.std.specs.Prelude.{ℕ, List, [], ◌∷◌, ◌++◌, Option, None, Some, codes, decimal}
use Rattle.config_files.specs.declared.reading.LoadEnd.{LoadEnd}
use Rattle.config_files.specs.declared.reading.LoadEnd.TheVariants as loading
use Rattle.command_statuses.specs.Causes.{end_line, fault_name, fault_place, refusal_name, refusal_place}
use Rattle.command_statuses.specs.declared.status.Status.{Status}
use Rattle.command_statuses.specs.declared.status.Status.TheVariants.{Done, Usage, Config, Module, Refused, FileFault, SiteFault, OutFault, OutOfMemory, Script, Invoke}

-- the status of what was not loaded
abbrev pub of_load : LoadEnd → Status
of_load (loading.Config number key) = Config number key
of_load (loading.Module vm fault) = Module vm fault
of_load loading.FileFault = FileFault
of_load loading.OutOfMemory = OutOfMemory

-- the number of a status, with which the process ends
abbrev pub status_number : Status → ℕ
status_number Done = 0
status_number Usage = 2
status_number (Config number key) = 3
status_number (Module vm fault) = 4
status_number (Refused refusal) = 4
status_number FileFault = 5
status_number SiteFault = 6
status_number OutFault = 7
status_number OutOfMemory = 8
status_number (Script line) = 9
status_number (Invoke end) = 10

-- the line of a configuration that is refused
abbrev pub config_line : (number : ℕ) → (key : List ℕ) → List ℕ
config_line number key = codes "wasmgate: config " ++ (decimal number ++ (codes " " ++ (key ++ (10 ∷ []))))

-- what stands after a cause: a blank and its place where it has one, and the end of the line
abbrev pub cause_end : Option ℕ → List ℕ
cause_end None = 10 ∷ []
cause_end (Some place) = codes " " ++ (decimal place ++ (10 ∷ []))

-- the line of a module that is refused, of the VM of this name
abbrev pub module_line : (vm cause : List ℕ) → Option ℕ → List ℕ
module_line vm cause place = codes "wasmgate: module " ++ (vm ++ (codes " " ++ (cause ++ cause_end place)))

-- the line of a status on standard error; a module that is called is of no VM
abbrev pub status_line : Status → List ℕ
status_line Done = []
status_line Usage = codes "wasmgate: usage\n"
status_line (Config number key) = config_line number key
status_line (Module vm fault) = module_line vm (fault_name fault) (fault_place fault)
status_line (Refused refusal) = module_line (codes "-") (refusal_name refusal) (refusal_place refusal)
status_line FileFault = codes "wasmgate: file\n"
status_line SiteFault = codes "wasmgate: site\n"
status_line OutFault = codes "wasmgate: out\n"
status_line OutOfMemory = codes "wasmgate: memory\n"
status_line (Script line) = codes "wasmgate: script " ++ (decimal line ++ (10 ∷ []))
status_line (Invoke end) = end_line end
