-- WHAT EVENTS SPELL: the bytes that come from a side of a line, joined, up to its end.
use Rattle.std.specs.Prelude.{◌≡◌, ℕ, ◌==◌, Bool, false, ◌&&◌, ◌||◌, List, [], ◌∷◌, ◌++◌, Option, if◌then◌else◌}
use Rattle.gate_io.specs.declared.event.Side.{Side}
use Rattle.gate_io.specs.declared.event.What.{What}
use Rattle.gate_io.specs.declared.event.What.TheVariants.{Opened, Bytes, End, Gone, Joined, Refused, Room, Clock, Stop}
use Rattle.h1_model.specs.Unread.{Reading, new_reading, Act, DoesAll, text_of}
use Rattle.send_queue.specs.Places.{is_same_side}

-- the bytes that an event brings from a side of a line
abbrev pub bytes_in : ℕ → Side → What → List ℕ
bytes_in n side (Opened line) = []
bytes_in n side (Bytes line s bytes) = if line == n && is_same_side side s then bytes else []
bytes_in n side (End line s) = []
bytes_in n side (Gone line s) = []
bytes_in n side (Joined line) = []
bytes_in n side (Refused line) = []
bytes_in n side (Room line s) = []
bytes_in n side Clock = []
bytes_in n side Stop = []

-- it says that no more come from there
abbrev pub ends_in : ℕ → Side → What → Bool
ends_in n side (Opened line) = false
ends_in n side (Bytes line s bytes) = false
ends_in n side (End line s) = line == n && is_same_side side s
ends_in n side (Gone line s) = false
ends_in n side (Joined line) = false
ends_in n side (Refused line) = false
ends_in n side (Room line s) = false
ends_in n side Clock = false
ends_in n side Stop = false

-- THE TEXT of a side of a line, by its events: their bytes, one after the other, up to the first end
abbrev pub text_of_side : ℕ → Side → List What → List ℕ
text_of_side n side [] = []
text_of_side n side (w ∷ ws) = if ends_in n side w then [] else bytes_in n side w ++ text_of_side n side ws

-- its end has come
abbrev pub has_ended : ℕ → Side → List What → Bool
has_ended n side [] = false
has_ended n side (w ∷ ws) = ends_in n side w || has_ended n side ws

-- A READER OF WHAT EVENTS SPELL: a new one became this by what is done with readers (more text comes, the text ends, a part is handed on, or none is there);
-- the text that came, joined, is exactly what the events spell, and it has ended exactly where they say so. So what was handed on is what that text spells
-- as far as it went, and what is unread is the rest of it.
pub record IsReadOf (asked : Option (List ℕ)) (n : ℕ) (side : Side) (ws : List What) (r : Reading) : Type 0 where
  pub acts : List Act
  pub does : DoesAll (new_reading asked) acts r
  pub text : text_of acts ≡ text_of_side n side ws
  pub ended : r.ended ≡ has_ended n side ws
