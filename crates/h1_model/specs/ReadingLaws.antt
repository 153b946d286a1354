-- What holds of readings in pieces: they spell what the whole text spells.
use Rattle.std.specs.Prelude.{◌≡◌, ◌<◌, length, ℕ, Bool, false, List, [], ◌++◌, map, Option}
use Rattle.h1_model.specs.Messages.{Item, Placed, Due, Stop, rest, refusal, SpellsFrom, Messages}
use Rattle.h1_model.specs.Unread.{Part, Next, none, IsNext, Reading, new_reading, Halts, Act, DoesAll, text_of, items_handed, Unread, cut_behind}

-- from a place on, one thing is unread next
abbrev pub OnePart : Type 0
OnePart =
    (ended : Bool) (asked : Option (List ℕ)) (due : Due) (text : List ℕ) (a b : Next)
    → IsNext ended asked due text a → IsNext ended asked due text b → a ≡ b

abbrev pub item_at : Placed → Item
item_at p = p.item

-- the whole text spells what was handed on, and stops for the same reason
pub record IsWholeReading (asked : Option (List ℕ)) (acts : List Act) (ended : Bool) (why : Stop) : Type 0 where
  pub items : List Placed
  pub spelled : Messages (text_of acts) ended asked items why
  pub same : map item_at items ≡ items_handed asked acts

-- However a text is cut and whenever parts are asked for: where none is left, what was handed on is what the whole text spells.
abbrev pub PiecesAreWhole : Type 0
PiecesAreWhole =
    (asked : Option (List ℕ)) (acts : List Act) (r : Reading) (why : Stop) → DoesAll (new_reading asked) acts r
    → IsNext r.ended r.asked r.due r.unread (none why) → IsWholeReading asked acts r.ended why

-- SEGMENTATION INDEPENDENCE: two readings of one text, however it was cut, with the same end, hand on the same heads, the same
-- bytes of bodies, the same trailers and ends, and stop for the same reason.
abbrev pub CutsAlike : Type 0
CutsAlike =
    (asked : Option (List ℕ)) (acts others : List Act) (r s : Reading) (why reason : Stop)
    → DoesAll (new_reading asked) acts r → DoesAll (new_reading asked) others s
    → text_of acts ≡ text_of others → r.ended ≡ s.ended
    → IsNext r.ended r.asked r.due r.unread (none why) → IsNext s.ended s.asked s.due s.unread (none reason)
    → (items_handed asked acts ≡ items_handed asked others) × (why ≡ reason)

-- a refusal stays, whatever comes after it and whether or not the text then ends
pub record RefusedStays : Type 0 where
  pub again : (r s : Reading) (number : ℕ) → Halts r (refusal number) s → IsNext s.ended s.asked s.due s.unread (none (refusal number))
  pub longer : (r s : Reading) (number : ℕ) (more : List ℕ) (ended : Bool) → Halts r (refusal number) s → r.ended ≡ false
      → IsNext ended s.asked s.due (s.unread ++ more) (none (refusal number))

-- A reader that rests has fewer than 65,536 bytes unread, however it came there: as many always are a part, the end or a refusal. So a
-- reader that is given more only while it has fewer is never stuck.
abbrev pub RestsAreShort : Type 0
RestsAreShort =
    (asked : Option (List ℕ)) (acts : List Act) (r s : Reading) → DoesAll (new_reading asked) acts r → Halts r rest s → length s.unread < 65536

-- what is unread of a text from a place on is what it spells there, cut
abbrev pub UnreadIsCut : Type 0
UnreadIsCut =
    (text : List ℕ) (ended : Bool) (asked : Option (List ℕ)) (due : Due) (at : ℕ) (items : List Placed) (parts : List Part) (why reason : Stop)
    → SpellsFrom text ended asked due at items why → Unread text ended asked due at parts reason
    → (parts ≡ cut_behind [] (map item_at items)) × (why ≡ reason)
