-- What a run of the program does: by the command that its words ask for, what the files tell, and its status.
use Rattle.std.specs.Prelude.{◌≡◌, ◌⊎◌, ℕ, ◌≤◌, List, [], length, Option, None, Some}
use Rattle.gate_config.specs.declared.config.Config.{Config as Configured}
use Rattle.gate_config.specs.Given.{Given, given}
use Rattle.gate_io.specs.Told.{Gains, GainsFront, Rose}
use Rattle.config_check.specs.Check.{counts_line}
use Rattle.config_files.specs.Loading.{Told, IsLoaded, IsNotLoaded}
use Rattle.config_files.specs.Plain.{IsPlainLoaded, IsNoPlain}
use Rattle.command_serve_filters.specs.Filtered.{ServesFiltered}
use Rattle.command_serve.specs.Serving.{Eyes, Seen}
use Rattle.command_serve.specs.declared.running.ServeEnd.{ServeEnd}
use Rattle.command_serve.specs.declared.running.ServeEnd.TheVariants as serving
use Rattle.command_statuses.specs.declared.status.Status.{Status}
use Rattle.command_statuses.specs.declared.status.Status.TheVariants.{Done, Usage, Config, Module, Refused, FileFault, SiteFault, OutFault, OutOfMemory, Script, Invoke}
use Rattle.command_words.specs.Forms.{Command, replay, replay_config, serve, check, invoke, generate, report}
use Rattle.commands.specs.Call.{Calls}
use Rattle.commands.specs.Generated.{Generated}
use Rattle.commands.specs.Report.{Reports}
use Rattle.commands.specs.Scripts.{IsUnloaded, Replays}

-- the configuration of this file, with the modules of its VMs
abbrev pub LoadsFile : Told → List ℕ → Configured → Type 0
LoadsFile files path config = IsLoaded files path (given config)

-- the plain configuration over the modules of these paths, each of which its VM holds
abbrev pub LoadsPlain : Told → List (List ℕ) → Configured → Type 0
LoadsPlain files modules config = IsPlainLoaded files modules (given config)

-- HOW `check` ENDS: the line of the configuration of this file is printed, or a front of it where the output failed; else nothing is printed
abbrev pub Checks : Told → List ℕ → Status → (old new : Option (List ℕ)) → Type 0
Checks files path Done old new = (config : Given) × IsLoaded files path config × Gains old (counts_line config) new
Checks files path OutFault old new = (config : Given) × IsLoaded files path config × GainsFront old (counts_line config) new
Checks files path (Config number key) old new = IsUnloaded (IsNotLoaded files path) (Config number key) × Gains old [] new
Checks files path (Module vm fault) old new = IsUnloaded (IsNotLoaded files path) (Module vm fault) × Gains old [] new
Checks files path FileFault old new = Gains old [] new
Checks files path OutOfMemory old new = Gains old [] new
Checks files path Usage old new = ⊥
Checks files path (Refused refusal) old new = ⊥
Checks files path SiteFault old new = ⊥
Checks files path (Script line) old new = ⊥
Checks files path (Invoke end) old new = ⊥

-- what holds of each command that words ask for: it names 16 modules at most
abbrev pub IsForm : Command → Type 0
IsForm (replay script modules) = length modules ≤ 16
IsForm (replay_config config script) = Unit {0}
IsForm (serve config stop_after) = Unit {0}
IsForm (check config) = Unit {0}
IsForm (invoke file export arguments) = Unit {0}
IsForm (generate n) = Unit {0}
IsForm (report file) = Unit {0}

-- what is done at a command that opens no socket, and at words of no form, which are refused
abbrev pub Does : Told → Option Command → Status → (old new : Option (List ℕ)) → Type 0
Does files None status old new = (status ≡ Usage) × Gains old [] new
Does files (Some (replay script modules)) status old new = Replays files (LoadsPlain files modules) (IsNoPlain files modules) script status old new
Does files (Some (replay_config config script)) status old new = Replays files (LoadsFile files config) (IsNotLoaded files config) script status old new
Does files (Some (serve config stop_after)) status old new = ⊥
Does files (Some (check config)) status old new = Checks files config status old new
Does files (Some (invoke file export arguments)) status old new = Calls files file export arguments status old new
Does files (Some (generate n)) status old new = Generated n status old new
Does files (Some (report file)) status old new = Reports files file status old new

-- how serving ended, by the status
abbrev pub serve_status : ServeEnd → Status
serve_status serving.Done = Done
serve_status serving.SiteFault = SiteFault
serve_status serving.OutFault = OutFault
serve_status serving.OutOfMemory = OutOfMemory

module _ {W : Type 0} (eyes : Eyes W) where
  -- serving over a configuration came to this: each worker has the machines of its modules
  pub record Served (config : Configured) (stop_after : Option ℕ) (status : Status) (site after : Seen W) (old new : Option (List ℕ)) : Type 0 where
    pub end : ServeEnd
    pub status_is : status ≡ serve_status end
    pub serves : ServesFiltered eyes config stop_after end site after old new

  -- nothing was loaded, and no socket opened
  pub record NotServed (files : Told) (path : List ℕ) (status : Status) (site after : Seen W) (old new : Option (List ℕ)) : Type 0 where
    pub why : IsUnloaded (IsNotLoaded files path) status
    pub site_is : after ≡ site
    pub nothing : Gains old [] new

  -- HOW `serve` ENDS: no configuration is loaded; or it serves by the one that is
  abbrev pub ServesFile : Told → List ℕ → Option ℕ → Status → (site after : Seen W) → (old new : Option (List ℕ)) → Type 0
  ServesFile files path stop_after status site after old new =
      NotServed files path status site after old new
      ⊎ ((config : Configured) × LoadsFile files path config × Served config stop_after status site after old new)

  -- what is done without sockets: the site is as it was
  abbrev pub DoesAlone : Told → Option Command → Status → (site after : Seen W) → (old new : Option (List ℕ)) → Type 0
  DoesAlone files command status site after old new = (after ≡ site) × Does files command status old new

  -- WHAT IS DONE at a command, and at words of no form
  unfoldable pub Obeys : Told → Option Command → Status → (site after : Seen W) → (old new : Option (List ℕ)) → Type 0
  Obeys files None status site after old new = DoesAlone files None status site after old new
  Obeys files (Some (replay script modules)) status site after old new = DoesAlone files (Some (replay script modules)) status site after old new
  Obeys files (Some (replay_config config script)) status site after old new = DoesAlone files (Some (replay_config config script)) status site after old new
  Obeys files (Some (serve config stop_after)) status site after old new = ServesFile files config stop_after status site after old new
  Obeys files (Some (check config)) status site after old new = DoesAlone files (Some (check config)) status site after old new
  Obeys files (Some (invoke file export arguments)) status site after old new = DoesAlone files (Some (invoke file export arguments)) status site after old new
  Obeys files (Some (generate n)) status site after old new = DoesAlone files (Some (generate n)) status site after old new
  Obeys files (Some (report file)) status site after old new = DoesAlone files (Some (report file)) status site after old new

-- the line of a status was written, or a front of it where the faults rose
abbrev pub TakesLine : Option (List ℕ) → List ℕ → Option (List ℕ) → ℕ → ℕ → Type 0
TakesLine old line new faults_before faults_after = Gains old line new ⊎ (GainsFront old line new × Rose faults_before faults_after)
