-- EACH STATUS HAS ITS CAUSE: so where no cause is there, and memory is, a run ends well.
use Rattle.std.specs.Prelude.{◌≡◌, ◌⊎◌, ℕ, List, Option, None, Some, Err}
use Rattle.commands.specs.Doing.{Obeys}
use Rattle.commands.specs.Files.{OfText}
use Rattle.commands.specs.Report.{IsUnreported}
use Rattle.commands.specs.Scripts.{IsRefusedAt}
use Rattle.config_files.specs.Loading.{Told, IsNotLoaded, OfFile}
use Rattle.config_files.specs.Plain.{IsNoPlain}
use Rattle.config_files.specs.declared.reading.LoadEnd.TheVariants.{Config as NoConfig, Module as NoModule}
use Rattle.command_serve.specs.Serving.{Eyes, Seen}
use Rattle.command_statuses.specs.declared.status.InvokeEnd.{InvokeEnd}
use Rattle.command_statuses.specs.declared.status.InvokeEnd.TheVariants.{Trap, FuelSpent}
use Rattle.command_statuses.specs.declared.status.Status.{Status}
use Rattle.command_statuses.specs.declared.status.Status.TheVariants.{Done, Usage, Config, Module, Refused, FileFault, SiteFault, OutFault, OutOfMemory, Script, Invoke}
use Rattle.wasm_invoke.specs.Invoking.{Invokes}
use Rattle.wasm_invoke.specs.declared.ends.End.TheVariants.{Refused as IsRefused, Trapped, FuelSpent as FuelWasSpent}
use Rattle.wasm_invoke.specs.declared.ends.Refusal.{Refusal}
use Rattle.command_words.specs.Forms.{Command, replay, replay_config, serve, check, invoke, generate, report}

-- the file of the configuration, the modules of a plain one, and the script that words name
abbrev pub config_path : Option Command → Option (List ℕ)
config_path None = None
config_path (Some (replay script modules)) = None
config_path (Some (replay_config config script)) = Some config
config_path (Some (serve config stop_after)) = Some config
config_path (Some (check config)) = Some config
config_path (Some (invoke file export arguments)) = None
config_path (Some (generate n)) = None
config_path (Some (report file)) = None

-- the modules that a command names in its words, in the place of a configuration
abbrev pub plain_modules : Option Command → Option (List (List ℕ))
plain_modules None = None
plain_modules (Some (replay script modules)) = Some modules
plain_modules (Some (replay_config config script)) = None
plain_modules (Some (serve config stop_after)) = None
plain_modules (Some (check config)) = None
plain_modules (Some (invoke file export arguments)) = None
plain_modules (Some (generate n)) = None
plain_modules (Some (report file)) = None

-- the file of the script that a command plays
abbrev pub script_path : Option Command → Option (List ℕ)
script_path None = None
script_path (Some (replay script modules)) = Some script
script_path (Some (replay_config config script)) = Some script
script_path (Some (serve config stop_after)) = None
script_path (Some (check config)) = None
script_path (Some (invoke file export arguments)) = None
script_path (Some (generate n)) = None
script_path (Some (report file)) = None

-- why a call or a report is refused: so it is by the bytes of the module's file, where they are told, and by the words
abbrev pub IsRefusedBy : Told → Option Command → Refusal → Type 0
IsRefusedBy files None refusal = ⊥
IsRefusedBy files (Some (replay script modules)) refusal = ⊥
IsRefusedBy files (Some (replay_config config script)) refusal = ⊥
IsRefusedBy files (Some (serve config stop_after)) refusal = ⊥
IsRefusedBy files (Some (check config)) refusal = ⊥
IsRefusedBy files (Some (invoke file export arguments)) refusal = OfText files file (λ text. Invokes text export arguments (Err (IsRefused refusal)))
IsRefusedBy files (Some (generate n)) refusal = ⊥
IsRefusedBy files (Some (report file)) refusal = OfText files file (λ text. IsUnreported text refusal)

-- why a call has no result: so it ends by these bytes
abbrev pub EndsWithout : Told → Option Command → InvokeEnd → Type 0
EndsWithout files None end = ⊥
EndsWithout files (Some (replay script modules)) end = ⊥
EndsWithout files (Some (replay_config config script)) end = ⊥
EndsWithout files (Some (serve config stop_after)) end = ⊥
EndsWithout files (Some (check config)) end = ⊥
EndsWithout files (Some (invoke file export arguments)) (Trap cause) = OfText files file (λ text. Invokes text export arguments (Err (Trapped cause)))
EndsWithout files (Some (invoke file export arguments)) FuelSpent = OfText files file (λ text. Invokes text export arguments (Err FuelWasSpent))
EndsWithout files (Some (generate n)) end = ⊥
EndsWithout files (Some (report file)) end = ⊥

-- THE CAUSE of a status; that of a fault is what the object of the outside shows of it
abbrev pub Cause : Told → Option Command → (file site out : Type 0) → Status → Type 0
Cause files words file site out Done = Unit {0}
Cause files words file site out Usage = words ≡ None
Cause files words file site out (Config number key) = (path : List ℕ) × (config_path words ≡ Some path) × IsNotLoaded files path (NoConfig number key)
Cause files words file site out (Module vm fault) =
    ((path : List ℕ) × (config_path words ≡ Some path) × IsNotLoaded files path (NoModule vm fault))
    ⊎ ((modules : List (List ℕ)) × (plain_modules words ≡ Some modules) × IsNoPlain files modules (NoModule vm fault))
Cause files words file site out (Refused refusal) = IsRefusedBy files words refusal
Cause files words file site out FileFault = file
Cause files words file site out SiteFault = site
Cause files words file site out OutFault = out
Cause files words file site out OutOfMemory = Unit {0}
Cause files words file site out (Script line) = (path : List ℕ) × (script_path words ≡ Some path) × (workers : ℕ) × OfFile files path (λ text. IsRefusedAt workers text line)
Cause files words file site out (Invoke end) = EndsWithout files words end

-- NO STATUS WITHOUT ITS CAUSE. (The last three premises are the clauses of `run` on faults.)
abbrev pub StatusesAreComplete : (W file of_site out : Type 0) → Type 0
StatusesAreComplete W file of_site out =
    (eyes : Eyes W) (files : Told) (words : Option Command) (status : Status) (site after : Seen W) (old new : Option (List ℕ))
    → Obeys eyes files words status site after old new → (status ≡ FileFault → file) → (status ≡ SiteFault → of_site) → (status ≡ OutFault → out)
    → Cause files words file of_site out status
