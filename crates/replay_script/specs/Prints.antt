-- What a run sends, as text.
use Rattle.std.specs.Prelude.{ℕ, ◌==◌, map, if◌then◌else◌, List, [], ◌∷◌, ◌++◌, codes, decimal}
use Rattle.hex.specs.Hex.{encode_lower}
use Rattle.gate_base.specs.declared.level.Level.{Level}
use Rattle.gate_base.specs.declared.level.Level.TheVariants.{Trace, Debug, Info, Warn, Error, Critical}
use Rattle.gate_io.specs.declared.event.Side.TheVariants.{Down, Up}
use Rattle.gate_io.specs.declared.event.Sent.{Sent}
use Rattle.gate_io.specs.declared.event.Sent.TheVariants.{Connect, Bytes, Close, Log}

-- the word of a level
abbrev pub level_word : Level → List ℕ
level_word Trace = codes "trace"
level_word Debug = codes "debug"
level_word Info = codes "info"
level_word Warn = codes "warn"
level_word Error = codes "error"
level_word Critical = codes "critical"

-- one line of output, without its LF
abbrev pub sent_text : Sent → List ℕ
sent_text (Connect line) = codes "connect " ++ decimal line
sent_text (Bytes line Down bytes) = codes "down " ++ (decimal line ++ (32 ∷ encode_lower bytes))
sent_text (Bytes line Up bytes) = codes "up " ++ (decimal line ++ (32 ∷ encode_lower bytes))
sent_text (Close line Down) = codes "close " ++ decimal line
sent_text (Close line Up) = codes "upclose " ++ decimal line
sent_text (Log level text) = codes "log " ++ (level_word level ++ (32 ∷ encode_lower text))

-- the same, with its LF
abbrev pub sent_line : Sent → List ℕ
sent_line sent = sent_text sent ++ (10 ∷ [])

-- the output: a line for each, in order
abbrev pub printed : List Sent → List ℕ
printed [] = []
printed (sent ∷ more) = sent_line sent ++ printed more

-- what a worker sends
pub record Told : Type 0 where
  pub who : ℕ
  pub sent : Sent

abbrev pub told : ℕ → Sent → Told
told who sent = record { who = who; sent = sent }

abbrev pub tell : ℕ → List Sent → List Told
tell who sent = map (told who) sent

-- the worker of the last line, where the last line before was of this one
abbrev pub last_in : ℕ → List Told → ℕ
last_in last [] = last
last_in last (t ∷ more) = last_in t.who more

-- the line that says of which worker what follows is, with its LF
abbrev pub on_line : ℕ → List ℕ
on_line who = codes "on " ++ decimal who ++ (10 ∷ [])

-- The output of several workers, in order, where the last line was of this one: before a line of another stands the line that names it.
abbrev pub printed_by : ℕ → List Told → List ℕ
printed_by last [] = []
printed_by last (t ∷ more) = (if t.who == last then [] else on_line t.who) ++ (sent_line t.sent ++ printed_by t.who more)
