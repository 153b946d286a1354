-- What a script over a configuration prints, and how it ends.
use Rattle.std.specs.Prelude.{◌≡◌, ◌⊎◌, ℕ, ◌<◌, ◌≤◌, List, [], length, Option}
use Rattle.gate_config.specs.declared.config.Config.{Config as Configured}
use Rattle.gate_io.specs.Told.{Gains}
use Rattle.config_files.specs.Loading.{Told, OfFile}
use Rattle.config_files.specs.declared.reading.LoadEnd.{LoadEnd}
use Rattle.config_files.specs.declared.reading.LoadEnd.TheVariants as ends
use Rattle.replay_script.specs.declared.command.Command.{Command}
use Rattle.replay_script.specs.Scripts.{IsScript, FirstBad}
use Rattle.command_replay_filters.specs.Filtered.{filtered}
use Rattle.command_replay.specs.Delivered.{Prints, PrintsFront}
use Rattle.command_statuses.specs.declared.status.Status.{Status}
use Rattle.command_statuses.specs.declared.status.Status.TheVariants.{Done, Usage, Config, Module, Refused, FileFault, SiteFault, OutFault, OutOfMemory, Script, Invoke}
use Rattle.commands.specs.Files.{HasText}

-- how many bytes a script has at most: 64 MiB
abbrev pub script_limit : ℕ
script_limit = 67108864

-- a script of so many workers is refused at this line: at line 0 where it is too long, else at the first line of no form
abbrev pub IsRefusedAt : (workers : ℕ) → List ℕ → ℕ → Type 0
IsRefusedAt workers text line = ((script_limit < length text) × (line ≡ 0)) ⊎ ((length text ≤ script_limit) × FirstBad workers text line)

-- the text is a script, all that it sends over this configuration was printed, and that is what the worlds of its workers receive
pub record IsPlayed (config : Configured) (text : List ℕ) (old new : Option (List ℕ)) : Type 0 where
  pub commands : List Command
  pub short : length text ≤ script_limit
  pub script : IsScript config.workers text commands
  pub prints : Prints (filtered config) commands old new

-- the text is a script, and a front of what some first events of it print was taken
pub record IsCutShort (config : Configured) (text : List ℕ) (old new : Option (List ℕ)) : Type 0 where
  pub commands : List Command
  pub short : length text ≤ script_limit
  pub script : IsScript config.workers text commands
  pub prints : PrintsFront (filtered config) commands old new

-- the same, by the status
abbrev pub PlaysLines : Configured → List Command → Status → (old new : Option (List ℕ)) → Type 0
PlaysLines config commands Done old new = Prints (filtered config) commands old new
PlaysLines config commands OutFault old new = PrintsFront (filtered config) commands old new
PlaysLines config commands OutOfMemory old new = Gains old [] new ⊎ PrintsFront (filtered config) commands old new
PlaysLines config commands (Script line) old new = ⊥
PlaysLines config commands FileFault old new = ⊥
PlaysLines config commands Usage old new = ⊥
PlaysLines config commands (Config number key) old new = ⊥
PlaysLines config commands (Module vm fault) old new = ⊥
PlaysLines config commands (Refused refusal) old new = ⊥
PlaysLines config commands SiteFault old new = ⊥
PlaysLines config commands (Invoke end) old new = ⊥

abbrev pub PlaysText : Configured → List ℕ → Status → (old new : Option (List ℕ)) → Type 0
PlaysText config text Done old new = IsPlayed config text old new
PlaysText config text OutFault old new = IsCutShort config text old new
PlaysText config text OutOfMemory old new = Gains old [] new ⊎ IsCutShort config text old new
PlaysText config text (Script line) old new = IsRefusedAt config.workers text line × Gains old [] new
PlaysText config text FileFault old new = ⊥
PlaysText config text Usage old new = ⊥
PlaysText config text (Config number key) old new = ⊥
PlaysText config text (Module vm fault) old new = ⊥
PlaysText config text (Refused refusal) old new = ⊥
PlaysText config text SiteFault old new = ⊥
PlaysText config text (Invoke end) old new = ⊥

-- HOW A SCRIPT ENDS over a configuration: its file is there, and all that it sends is printed, or a front of it where the output failed or
-- memory ran out; else nothing is printed, and the status tells why. So nothing is printed of a script that is missing, whatever the status.
abbrev pub Plays : Told → (script : List ℕ) → Configured → Status → (old new : Option (List ℕ)) → Type 0
Plays files script config Done old new = HasText files script (λ text. IsPlayed config text old new)
Plays files script config OutFault old new = HasText files script (λ text. IsCutShort config text old new)
Plays files script config OutOfMemory old new = Gains old [] new ⊎ HasText files script (λ text. IsCutShort config text old new)
Plays files script config (Script line) old new = OfFile files script (λ text. IsRefusedAt config.workers text line) × Gains old [] new
Plays files script config FileFault old new = Gains old [] new
Plays files script config Usage old new = ⊥
Plays files script config (Config number key) old new = ⊥
Plays files script config (Module vm fault) old new = ⊥
Plays files script config (Refused refusal) old new = ⊥
Plays files script config SiteFault old new = ⊥
Plays files script config (Invoke end) old new = ⊥

-- why no configuration was loaded, by the status
abbrev pub IsUnloaded : (LoadEnd → Type 0) → Status → Type 0
IsUnloaded Refuses (Config number key) = Refuses (ends.Config number key)
IsUnloaded Refuses (Module vm fault) = Refuses (ends.Module vm fault)
IsUnloaded Refuses FileFault = Unit {0}
IsUnloaded Refuses OutOfMemory = Unit {0}
IsUnloaded Refuses Done = ⊥
IsUnloaded Refuses Usage = ⊥
IsUnloaded Refuses (Refused refusal) = ⊥
IsUnloaded Refuses SiteFault = ⊥
IsUnloaded Refuses OutFault = ⊥
IsUnloaded Refuses (Script line) = ⊥
IsUnloaded Refuses (Invoke end) = ⊥

-- HOW A REPLAY ENDS: no configuration is loaded, and nothing is printed; or the script is played over the one that is
abbrev pub Replays : Told → (Loads : Configured → Type 0) (Refuses : LoadEnd → Type 0) (script : List ℕ) → Status → (old new : Option (List ℕ)) → Type 0
Replays files Loads Refuses script status old new =
    (IsUnloaded Refuses status × Gains old [] new)
    ⊎ ((config : Configured) × Loads config × Plays files script config status old new)
