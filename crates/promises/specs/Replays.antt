-- What a user of `replay` relies on.
use Rattle.std.specs.Prelude.{◌≡◌, ℕ, ◌==◌, if◌then◌else◌, List, [], ◌∷◌, Option, Some}
use Rattle.commands.specs.Doing.{LoadsFile, LoadsPlain, Obeys}
use Rattle.commands.specs.Files.{HasText}
use Rattle.commands.specs.Scripts.{IsPlayed}
use Rattle.config_files.specs.Loading.{Told as ToldFiles}
use Rattle.gate_config.specs.declared.config.Config.{Config as Configured}
use Rattle.gate_io.specs.Passing.{received}
use Rattle.gate_io.specs.Told.{Gains}
use Rattle.gate_io.specs.declared.event.Event.{Event}
use Rattle.replay_script.specs.Prints.{Told, printed_by}
use Rattle.replay_script.specs.Scripts.{IsScript}
use Rattle.replay_script.specs.declared.command.Command.{Command}
use Rattle.command_replay.specs.Delivered.{sent_of}
use Rattle.command_replay.specs.Replay.{Placed, placed_of, seed}
use Rattle.command_serve.specs.Serving.{Eyes, Seen}
use Rattle.command_statuses.specs.declared.status.Status.TheVariants.{Done}
use Rattle.vm_host.specs.Slots.{calling, exported_in, registering_in}
use Rattle.command_words.specs.Forms.{Command as Words, replay, replay_config}
use Rattle.worker_model.specs.Making.{new_worker}
use Rattle.worker_model.specs.State.{Standing}
use Rattle.vm_host.specs.declared.slots.Vms.{Vms}
use Rattle.command_replay_filters.specs.Filtered.{machines_of}
use Rattle.promises.specs.Headline.{Headline, Life}

-- the events of one worker
abbrev pub events_at : ℕ → List Placed → List Event
events_at who [] = []
events_at who (p ∷ events) = if p.who == who then p.event ∷ events_at who events else events_at who events

-- THE WORLD OF A WORKER OF A SCRIPT: its seed is 32 zero bytes; it had one life, at the events of the script that are its own, in their order; and of what was
-- printed its own is what its world received.
pub record InScript (events : List Placed) (sent : List Told) (who : ℕ) (with : List ℕ) (lives : List Life) : Type 0 where
  pub seed_is : with ≡ seed
  pub life : Life
  pub one : lives ≡ life ∷ []
  pub events_are : life.events ≡ events_at who events
  pub received_is : received life.passed ≡ sent_of who sent

-- a worker of a configuration, with the machines of its modules
abbrev pub first_of : Configured → ℕ → List ℕ → Standing Vms
first_of config who with = new_worker exported_in registering_in config who with (machines_of config)

-- the headline of these events of a script, of which this is printed
abbrev pub ScriptHeadline : Configured → List Placed → List Told → Type 0
ScriptHeadline config events sent = Headline calling (first_of config) config (InScript events sent)

-- PLAYED: the text is a script, all that its workers were sent to say was printed, and the headline holds of them
pub record Played (config : Configured) (text : List ℕ) (old new : Option (List ℕ)) : Type 0 where
  pub commands : List Command
  pub script : IsScript config.workers text commands
  pub sent : List Told
  pub headline : ScriptHeadline config (placed_of commands) sent
  pub printed : Gains old (printed_by 1 sent) new

-- what is promised of a command at status 0
abbrev pub Promised : ToldFiles → Words → (old new : Option (List ℕ)) → Type 0
Promised files (replay script modules) old new = (config : Configured) × LoadsPlain files modules config × HasText files script (λ text. Played config text old new)
Promised files (replay_config config_file script) old new = (config : Configured) × LoadsFile files config_file config × HasText files script (λ text. Played config text old new)
Promised files other old new = Unit {0}

-- A REPLAY THAT ENDS WELL has its headline, and printed what its workers' worlds received.
abbrev pub ReplayHasItsHeadline : (W : Type 0) → Type 0
ReplayHasItsHeadline W =
    (eyes : Eyes W) (files : ToldFiles) (words : Words) (site after : Seen W) (old new : Option (List ℕ))
    → Obeys eyes files (Some words) Done site after old new → Promised files words old new

-- ONE OUTPUT: over one configuration, one text plays to one list of what is sent. (What it prints is that list.)
abbrev pub OneOutput : Type 0
OneOutput = (config : Configured) (text old : List ℕ) (one two : List ℕ) → IsPlayed config text (Some old) (Some one) → IsPlayed config text (Some old) (Some two) → one ≡ two

-- the words are those of a replay
abbrev pub IsReplay : Words → Type 0
IsReplay (replay script modules) = Unit {0}
IsReplay (replay_config config_file script) = Unit {0}
IsReplay other = ⊥

-- A REPLAY IS A FUNCTION OF ITS FILES: two that end well, of the same words over the same files that are told, print the same.
abbrev pub ReplayIsAFunction : (W V : Type 0) → Type 0
ReplayIsAFunction W V =
    (eyes : Eyes W) (others : Eyes V) (files : List (List ℕ × List ℕ)) (words : Words) (site after : Seen W) (other behind : Seen V) (old one two : List ℕ) → IsReplay words
    → Obeys eyes (Some files) (Some words) Done site after (Some old) (Some one)
    → Obeys others (Some files) (Some words) Done other behind (Some old) (Some two)
    → one ≡ two
