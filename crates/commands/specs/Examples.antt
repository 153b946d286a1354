-- Worked examples: the files that commands read.
use Rattle.std.specs.Prelude.{◌≡◌, ℕ, List, [], ◌∷◌, Option, Some, Ok, Err, codes}
use Rattle.config_files.specs.Loading.{Told, IsCode, IsNotLoaded}
use Rattle.config_files.specs.Plain.{IsNoPlain, plain_over}
use Rattle.config_files.specs.declared.reading.LoadEnd.TheVariants as ends
use Rattle.gate_config.specs.declared.config.Config.{Config as Configured}
use Rattle.gate_io.specs.Told.{Gains}
use Rattle.config_reader.specs.Whole.{Judged}
use Rattle.command_statuses.specs.declared.status.Status.{Status}
use Rattle.command_statuses.specs.declared.status.Status.TheVariants.{Config, Done, OutFault, OutOfMemory}
use Rattle.wasm_syntax.specs.declared.module.Module.{Module}
use Rattle.command_words.specs.Forms.{replay, replay_config, check, invoke, generate, report}
use Rattle.commands.specs.Call.{WasRead}
use Rattle.commands.specs.Doing.{Checks, LoadsFile, LoadsPlain}
use Rattle.commands.specs.Reading.{IsJudgedFor, NoneRefused, Reaches, paths_of}
use Rattle.commands.specs.Scripts.{Plays, Replays}

abbrev a : List ℕ
a = codes "a.wasm"

abbrev b : List ℕ
b = codes "b.wasm"

abbrev c : List ℕ
c = codes "gate.toml"

abbrev s : List ℕ
s = codes "s"

-- which files a command reads, in their order
pub record PathExamples : Type 0 where
  pub plain : (judged : Judged) → paths_of (Some (replay s (a ∷ b ∷ []))) judged ≡ a ∷ b ∷ s ∷ []
  pub of_file : paths_of (Some (replay_config c s)) (Ok (plain_over (a ∷ b ∷ []))) ≡ c ∷ a ∷ b ∷ s ∷ []
  pub refused : (number : ℕ) (key : List ℕ) → paths_of (Some (replay_config c s)) (Err (number, key)) ≡ c ∷ []
  pub checked : paths_of (Some (check c)) (Ok (plain_over (a ∷ []))) ≡ c ∷ a ∷ []
  pub called : (judged : Judged) → paths_of (Some (invoke a (codes "f") [])) judged ≡ a ∷ []
  pub reported : (judged : Judged) → paths_of (Some (report a)) judged ≡ a ∷ []
  pub generated : (judged : Judged) → paths_of (Some (generate 7)) judged ≡ []

-- a file of no byte, which is no module, and a script
abbrev pub no_module : Told
no_module = Some ((a, []) ∷ (s, codes "stop\n") ∷ [])

pub record RefusalExamples : Type 0 where
  -- after a file that is no module nothing is read, no other module and no script; it is itself
  pub no_module_behind : (judged : Judged) → NoneRefused no_module (Some (replay s (a ∷ b ∷ []))) judged (a ∷ b ∷ []) → ⊥
  pub no_script_behind : (judged : Judged) → NoneRefused no_module (Some (replay s (a ∷ []))) judged (a ∷ s ∷ []) → ⊥
  pub itself : (judged : Judged) → NoneRefused no_module (Some (replay s (a ∷ b ∷ []))) judged (a ∷ [])
  -- a configuration that is refused is read alone
  pub alone : (judged : Judged) (number : ℕ) (key : List ℕ) (new : Option (List (List ℕ))) → Reaches no_module (Some (check c)) judged (Config number key) (Some []) new → new ≡ Some (c ∷ [])
  -- a file that is not there is neither played nor called
  pub not_played : (config : Configured) (old new : Option (List ℕ)) → Plays no_module b config Done old new → ⊥
  pub not_cut : (config : Configured) (old new : Option (List ℕ)) → Plays no_module b config OutFault old new → ⊥
  -- where memory ran out nothing was printed of it
  pub nothing_printed : (config : Configured) (old new : Option (List ℕ)) → Plays no_module b config OutOfMemory old new → Gains old [] new
  pub not_called : WasRead no_module b Done → ⊥
  pub called : WasRead no_module a Done
  -- a configuration that is not there is not loaded, is not refused as one that is there, and nothing is read after it
  pub not_loaded : (config : Configured) → LoadsFile no_module c config → ⊥
  pub not_refused : (number : ℕ) (key : List ℕ) → IsNotLoaded no_module c (ends.Config number key) → ⊥
  pub not_checked : (old new : Option (List ℕ)) → Checks no_module c Done old new → ⊥
  pub none_behind : (judged : Judged) (reads : List (List ℕ)) → IsJudgedFor no_module (Some c) judged → NoneRefused no_module (Some (check c)) judged (c ∷ a ∷ reads) → ⊥
  -- a module that is not there is held by no VM
  pub not_held : (pages : ℕ) (m : Module) → IsCode no_module b pages m → ⊥
  -- over one that is missing no script is played, so nothing is printed, whatever the status
  pub nothing_played : (status : Status) (old new : Option (List ℕ)) → Replays no_module (LoadsPlain no_module (b ∷ [])) (IsNoPlain no_module (b ∷ [])) s status old new → Gains old [] new
