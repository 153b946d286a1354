-- The lines of a script, and their texts.
use Rattle.std.specs.Prelude.{◌≡◌, ℕ, ◌^◌, ◌<◌, ◌≤◌, List, [], ◌∷◌, ◌++◌, length, codes, decimal, Option, None, Some}
use Rattle.hex.specs.Hex.{encode_lower, IsBytes}
use Rattle.gate_io.specs.declared.event.What.{What}
use Rattle.gate_io.specs.declared.event.What.TheVariants as what
use Rattle.gate_io.specs.declared.event.Side.TheVariants.{Down, Up}
use Rattle.replay_script.specs.declared.command.Command.{Command}
use Rattle.replay_script.specs.declared.command.Command.TheVariants.{On, At, Open, Bytes, End, Gone, Joined, Refused, UpBytes, UpEnd, UpGone, Clock, Stop}

-- The text of a line, without the LF at its end: words with one space between two. Numbers are decimal without a
-- leading zero, bytes are lower-case hexadecimal.
abbrev pub text_of : Command → List ℕ
text_of (On worker) = codes "on " ++ decimal worker
text_of (At moment) = codes "at " ++ decimal moment
text_of (Open line) = codes "open " ++ decimal line
text_of (Bytes line bytes) = codes "bytes " ++ (decimal line ++ (32 ∷ encode_lower bytes))
text_of (End line) = codes "end " ++ decimal line
text_of (Gone line) = codes "gone " ++ decimal line
text_of (Joined line) = codes "joined " ++ decimal line
text_of (Refused line) = codes "refused " ++ decimal line
text_of (UpBytes line bytes) = codes "upbytes " ++ (decimal line ++ (32 ∷ encode_lower bytes))
text_of (UpEnd line) = codes "upend " ++ decimal line
text_of (UpGone line) = codes "upgone " ++ decimal line
text_of Clock = codes "clock"
text_of Stop = codes "stop"

-- a number of a worker
pub record IsWorker (n : ℕ) : Type 0 where
  pub low : 1 ≤ n
  pub high : n ≤ 8

-- a number of a line
pub record IsLine (n : ℕ) : Type 0 where
  pub low : 1 ≤ n
  pub high : n < 2 ^ 32

-- what one line brings: 1 to 16,384 bytes
pub record IsPiece (bytes : List ℕ) : Type 0 where
  pub low : 1 ≤ length bytes
  pub high : length bytes ≤ 16384
  pub each : IsBytes bytes

-- the byte stands nowhere in the text
abbrev pub IsFree : ℕ → List ℕ → Type 0
IsFree byte [] = Unit {0}
IsFree byte (b ∷ bytes) = (b ≡ byte → ⊥) × IsFree byte bytes

-- the numbers and bytes are within their bounds
abbrev pub IsInForm : Command → Type 0
IsInForm (On worker) = IsWorker worker
IsInForm (At moment) = moment < 2 ^ 64
IsInForm (Open line) = IsLine line
IsInForm (Bytes line bytes) = IsLine line × IsPiece bytes
IsInForm (End line) = IsLine line
IsInForm (Gone line) = IsLine line
IsInForm (Joined line) = IsLine line
IsInForm (Refused line) = IsLine line
IsInForm (UpBytes line bytes) = IsLine line × IsPiece bytes
IsInForm (UpEnd line) = IsLine line
IsInForm (UpGone line) = IsLine line
IsInForm Clock = Unit {0}
IsInForm Stop = Unit {0}

-- the text of one line is that of a command
pub record Spells (line : List ℕ) (command : Command) : Type 0 where
  pub in_form : IsInForm command
  pub text : line ≡ text_of command

-- What happens at a line. `on` only sets the worker and `at` the moment, and `stop` is the end, at which Stop comes in any case.
abbrev pub what_of : Command → Option What
what_of (On worker) = None
what_of (At moment) = None
what_of (Open line) = Some (what.Opened line)
what_of (Bytes line bytes) = Some (what.Bytes line Down bytes)
what_of (End line) = Some (what.End line Down)
what_of (Gone line) = Some (what.Gone line Down)
what_of (Joined line) = Some (what.Joined line)
what_of (Refused line) = Some (what.Refused line)
what_of (UpBytes line bytes) = Some (what.Bytes line Up bytes)
what_of (UpEnd line) = Some (what.End line Up)
what_of (UpGone line) = Some (what.Gone line Up)
what_of Clock = Some what.Clock
what_of Stop = None
