-- Which files a command reads, and how far it comes.
use Rattle.std.specs.Prelude.{ℕ, List, [], ◌∷◌, ◌++◌, Option, None, Some, Ok, Err}
use Rattle.gate_io.specs.Told.{Gains, GainsFront}
use Rattle.config_files.specs.Loading.{Told, IsJudged, NoneBehind, NoneBehindConfig, StopsAtBad, StopsAtModule, modules_of}
use Rattle.config_files.specs.Plain.{vms_over}
use Rattle.config_files.specs.declared.modules.ModuleFault.{ModuleFault}
use Rattle.config_reader.specs.Whole.{Judged}
use Rattle.command_statuses.specs.declared.status.Status.{Status}
use Rattle.command_statuses.specs.declared.status.Status.TheVariants.{Done, Usage, Config, Module, Refused, FileFault, SiteFault, OutFault, OutOfMemory, Script, Invoke}
use Rattle.command_words.specs.Forms.{Command, replay, replay_config, serve, check, invoke, generate, report}

-- the path of the configuration, where a command names one
abbrev pub config_path : Option Command → Option (List ℕ)
config_path None = None
config_path (Some (replay script modules)) = None
config_path (Some (replay_config config script)) = Some config
config_path (Some (serve config stop_after)) = Some config
config_path (Some (check config)) = Some config
config_path (Some (invoke file export arguments)) = None
config_path (Some (generate n)) = None
config_path (Some (report file)) = None

-- after the path of a configuration: where it is one, those of its modules, and then these
abbrev pub behind_config : Judged → List (List ℕ) → List (List ℕ)
behind_config (Ok said) more = modules_of said.vms ++ more
behind_config (Err refusal) more = []

-- THE PATHS of a command, in the order in which they are read
abbrev pub paths_of : Option Command → Judged → List (List ℕ)
paths_of None judged = []
paths_of (Some (replay script modules)) judged = modules ++ script ∷ []
paths_of (Some (replay_config config script)) judged = config ∷ behind_config judged (script ∷ [])
paths_of (Some (serve config stop_after)) judged = config ∷ behind_config judged []
paths_of (Some (check config)) judged = config ∷ behind_config judged []
paths_of (Some (invoke file export arguments)) judged = file ∷ []
paths_of (Some (generate n)) judged = []
paths_of (Some (report file)) judged = file ∷ []

-- this is what the file of this path, where a command names one, comes to as a configuration
abbrev pub IsJudgedFor : Told → Option (List ℕ) → Judged → Type 0
IsJudgedFor files None judged = Unit {0}
IsJudgedFor files (Some path) judged = IsJudged files path judged

-- none of these reads stands after a refusal: after that of a module comes another only where its file is one that its VM can run, and
-- after that of a configuration only where it is one
abbrev pub NoneRefused : Told → Option Command → Judged → List (List ℕ) → Type 0
NoneRefused files None judged reads = Unit {0}
NoneRefused files (Some (replay script modules)) judged reads = NoneBehind files (vms_over 0 modules) reads
NoneRefused files (Some (replay_config config script)) judged reads = NoneBehindConfig files judged reads
NoneRefused files (Some (serve config stop_after)) judged reads = NoneBehindConfig files judged reads
NoneRefused files (Some (check config)) judged reads = NoneBehindConfig files judged reads
NoneRefused files (Some (invoke file export arguments)) judged reads = Unit {0}
NoneRefused files (Some (generate n)) judged reads = Unit {0}
NoneRefused files (Some (report file)) judged reads = Unit {0}

-- the file of a command's configuration was read, and no other
abbrev pub StopsAtConfig : Option (List ℕ) → (old new : Option (List (List ℕ))) → Type 0
StopsAtConfig None old new = ⊥
StopsAtConfig (Some path) old new = Gains old (path ∷ []) new

-- the module of the VM of this name has this fault, is the first bad one, and was read last
abbrev pub StopsAtVm : Told → Option Command → (name : List ℕ) → ModuleFault → (old new : Option (List (List ℕ))) → Type 0
StopsAtVm files None name fault old new = ⊥
StopsAtVm files (Some (replay script modules)) name fault old new = StopsAtBad files (vms_over 0 modules) name fault old new
StopsAtVm files (Some (replay_config config script)) name fault old new = StopsAtModule files config name fault old new
StopsAtVm files (Some (serve config stop_after)) name fault old new = StopsAtModule files config name fault old new
StopsAtVm files (Some (check config)) name fault old new = StopsAtModule files config name fault old new
StopsAtVm files (Some (invoke file export arguments)) name fault old new = ⊥
StopsAtVm files (Some (generate n)) name fault old new = ⊥
StopsAtVm files (Some (report file)) name fault old new = ⊥

-- HOW FAR a command comes, by its status: to the refused file of a configuration or a module, and nowhere with words of no form. A read that
-- failed, and want of memory, may have come behind any of its files. Else all of them were read.
abbrev pub Reaches : Told → Option Command → Judged → Status → (old new : Option (List (List ℕ))) → Type 0
Reaches files command judged Usage old new = Gains old [] new
Reaches files command judged (Config number key) old new = StopsAtConfig (config_path command) old new
Reaches files command judged (Module vm fault) old new = StopsAtVm files command vm fault old new
Reaches files command judged FileFault old new = Unit {0}
Reaches files command judged OutOfMemory old new = Unit {0}
Reaches files command judged Done old new = Gains old (paths_of command judged) new
Reaches files command judged SiteFault old new = Gains old (paths_of command judged) new
Reaches files command judged OutFault old new = Gains old (paths_of command judged) new
Reaches files command judged (Script line) old new = Gains old (paths_of command judged) new
Reaches files command judged (Refused refusal) old new = Gains old (paths_of command judged) new
Reaches files command judged (Invoke end) old new = Gains old (paths_of command judged) new

-- THE FILES THAT A COMMAND READS, on every end: those of a front of its paths, each once and in their order, and none after a refusal
pub record ReadsFor (files : Told) (command : Option Command) (status : Status) (old new : Option (List (List ℕ))) : Type 0 where
  pub judged : Judged
  pub of_file : IsJudgedFor files (config_path command) judged
  pub gained : GainsFront old (paths_of command judged) new
  pub none_refused : NoneRefused files command judged gained.front
  pub reaches : Reaches files command judged status old new

-- ---- a step on the way

-- the one file of a script, a call or a report was read, unless its read failed or memory ran out
abbrev pub ReadsOne : (path : List ℕ) → Status → (old new : Option (List (List ℕ))) → Type 0
ReadsOne path Done old new = Gains old (path ∷ []) new
ReadsOne path OutFault old new = Gains old (path ∷ []) new
ReadsOne path (Script line) old new = Gains old (path ∷ []) new
ReadsOne path (Refused refusal) old new = Gains old (path ∷ []) new
ReadsOne path (Invoke end) old new = Gains old (path ∷ []) new
ReadsOne path FileFault old new = Unit {0}
ReadsOne path OutOfMemory old new = Unit {0}
ReadsOne path Usage old new = ⊥
ReadsOne path (Config number key) old new = ⊥
ReadsOne path (Module vm fault) old new = ⊥
ReadsOne path SiteFault old new = ⊥
