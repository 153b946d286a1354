-- WHAT A READER USES UP: each part that it hands on uses bytes that were unread, but for an end.
use Rattle.std.specs.Prelude.{◌≡◌, ◌<◌, ◌≤◌, Bool, true, false, length}
use Rattle.filter_host.specs.Heard.{Heard, hands, halts, Hears}
use Rattle.h1_model.specs.Unread.{Part, head_part, interim_part, piece, trailer_part, Reading}

-- A body ends with this part, so that none follows of its message. (Its end may have come alone: the length that its head told is used
-- up, or its line ended.)
abbrev pub ends_body : Part → Bool
ends_body (head_part h) = false
ends_body (interim_part h) = false
ends_body (piece bytes last) = last
ends_body (trailer_part fields) = true

-- what the reader is after what it said
abbrev pub behind : Heard → Reading
behind (hands part new) = new
behind (halts why new) = new

abbrev pub UsesBytes : Reading → Heard → Type 0
UsesBytes old (hands part new) = ends_body part ≡ false → length new.unread < length old.unread
UsesBytes old (halts why new) = length new.unread ≤ length old.unread

pub record ReadingsUseBytes : Type 0 where
  pub uses : (old : Reading) (heard : Heard) → Hears old heard → UsesBytes old heard
  pub adds_none : (old : Reading) (heard : Heard) → Hears old heard → length (behind heard).unread ≤ length old.unread
