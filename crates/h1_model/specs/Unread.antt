-- What is unread of a line's text, from a place on: heads, pieces of bodies with their end flags, and trailers.
use Rattle.std.specs.Prelude.{◌≡◌, ℕ, ◌+◌, ◌<◌, ◌≤◌, ◌==◌, ◌⊎◌, Bool, true, false, List, [], ◌∷◌, ◌++◌, length, drop, map, Option, None, Some, if◌then◌else◌}
use Rattle.h1_model.specs.Fields.{Pair}
use Rattle.h1_model.specs.Head.{Head}
use Rattle.h1_model.specs.Lines.{after_empty_lines}
use Rattle.h1_model.specs.Messages.{Item, request, interim, response, octet, end, trailers, counted, coded, unbounded, Due, head, body, done, Stop, Step, item, stop, StepsTo}
use Rattle.h1_model.specs.Chunks.{sought, section_taken, place_taken}
use Rattle.h1_model.specs.Trailers.{piece_limit}

-- What is handed on of a message: a head, after which a body is due unless its `length` is nothing; an interim head; bytes of
-- the body, of which `last` says that the body ends with them and that no trailers follow; or trailers, with which it ends.
pub data Part : Type 0 where
  head_part : Head → Part
  interim_part : Head → Part
  piece : (bytes : List ℕ) → (last : Bool) → Part
  trailer_part : List Pair → Part

-- what is next at a place: a part that uses up so many bytes, and then this is due; or no further part
pub data Next : Type 0 where
  part : Part → ℕ → Due → Next
  none : Stop → Next

-- From a place on, where that is due, these bytes of a body come one after the other. With the coding in front of and between
-- them they take so many bytes of the text, and then this is due.
abbrev pub Carries : Bool → Option (List ℕ) → Due → List ℕ → List ℕ → ℕ → Due → Type 0
Carries ended asked due text [] used next = (used ≡ 0) × (next ≡ due)
Carries ended asked due text (b ∷ bytes) used next =
    (n m : ℕ) × (mid : Due) × StepsTo ended asked due text (item (octet b) n mid) × Carries ended asked mid (drop n text) bytes m next
    × (used ≡ n + m)

-- the part that a step is by itself, where it is no byte of a body; a body's end that comes alone is an empty piece
abbrev pub by_itself : Step → Option Next
by_itself (item (request h) used due) = Some (part (head_part h) used due)
by_itself (item (interim h) used due) = Some (part (interim_part h) used due)
by_itself (item (response h) used due) = Some (part (head_part h) used due)
by_itself (item (octet b) used due) = None
by_itself (item end used due) = Some (part (piece [] true) used due)
by_itself (item (trailers fields) used due) = Some (part (trailer_part fields) used due)
by_itself (stop why) = Some (none why)

-- a piece of these bytes, which take so many, where that is due after them and this step comes there: it takes the body's end
-- with it
abbrev pub piece_before : List ℕ → ℕ → Due → Step → Next
piece_before bytes used mid (item (request h) n due) = part (piece bytes false) used mid
piece_before bytes used mid (item (interim h) n due) = part (piece bytes false) used mid
piece_before bytes used mid (item (response h) n due) = part (piece bytes false) used mid
piece_before bytes used mid (item (octet b) n due) = part (piece bytes false) used mid
piece_before bytes used mid (item end n due) = part (piece bytes true) (used + n) due
piece_before bytes used mid (item (trailers fields) n due) = part (piece bytes false) used mid
piece_before bytes used mid (stop why) = part (piece bytes false) used mid

abbrev pub IsNoOctet : Step → Type 0
IsNoOctet (item (request h) n due) = Unit {0}
IsNoOctet (item (interim h) n due) = Unit {0}
IsNoOctet (item (response h) n due) = Unit {0}
IsNoOctet (item (octet b) n due) = ⊥
IsNoOctet (item end n due) = Unit {0}
IsNoOctet (item (trailers fields) n due) = Unit {0}
IsNoOctet (stop why) = Unit {0}

-- the step that stands there is a part by itself
pub record IsAlone (ended : Bool) (asked : Option (List ℕ)) (due : Due) (text : List ℕ) (next : Next) : Type 0 where
  pub step : Step
  pub there : StepsTo ended asked due text step
  pub is : by_itself step ≡ Some next

-- All the bytes of a body that are there make one piece, but at most 16,384 of them. It has the end flag where the end comes
-- right after them.
pub record IsPiece (ended : Bool) (asked : Option (List ℕ)) (due : Due) (text : List ℕ) (next : Next) : Type 0 where
  pub bytes : List ℕ
  pub used : ℕ
  pub mid : Due
  pub behind : Step
  pub carried : Carries ended asked due text bytes used mid
  pub some : 0 < length bytes
  pub few : length bytes ≤ piece_limit
  pub there : StepsTo ended asked mid (drop used text) behind
  pub all : IsNoOctet behind ⊎ (length bytes ≡ piece_limit)
  pub is : next ≡ piece_before bytes used mid behind

-- WHAT IS UNREAD NEXT, from a place on
abbrev pub IsNext : Bool → Option (List ℕ) → Due → List ℕ → Next → Type 0
IsNext ended asked due text next = IsAlone ended asked due text next ⊎ IsPiece ended asked due text next

-- ---- a reader of one side of a line

-- what it answers, whether its text has ended, what is due in it, and the text that no part has used
pub record Reading : Type 0 where
  pub asked : Option (List ℕ)
  pub ended : Bool
  pub due : Due
  pub unread : List ℕ

-- one of which nothing has come
abbrev pub new_reading : Option (List ℕ) → Reading
new_reading asked = record { asked = asked; ended = false; due = head; unread = [] }

-- with more text, and at the end of the text
abbrev pub reading_with_bytes : List ℕ → Reading → Reading
reading_with_bytes bytes r = record r { unread = r.unread ++ bytes }

abbrev pub reading_with_end : Reading → Reading
reading_with_end r = record r { ended = true }

-- after a part that used so many bytes
abbrev pub moved_on : ℕ → Due → Reading → Reading
moved_on used due r = record r { due = due; unread = drop used r.unread }

-- What stands in front of the next part counts as read: the empty lines in front of a head, and the last chunk's line in front of a
-- trailer section. Then this is due, and this is unread.
abbrev pub due_at : Due → List ℕ → Due
due_at head text = head
due_at (body (counted n)) text = body (counted n)
due_at (body (coded connection place)) text = body (coded connection (place_taken place (sought place text)))
due_at (body unbounded) text = body unbounded
due_at done text = done

abbrev pub unread_at : Due → List ℕ → List ℕ
unread_at head text = after_empty_lines text
unread_at (body (counted n)) text = text
unread_at (body (coded connection place)) text = drop (section_taken (sought place text)) text
unread_at (body unbounded) text = text
unread_at done text = text

abbrev pub awaiting_bytes : Reading → Reading
awaiting_bytes r = record r { due = due_at r.due r.unread; unread = unread_at r.due r.unread }

-- it hands this part on, and is this reading then
pub record Hands (old : Reading) (p : Part) (new : Reading) : Type 0 where
  pub used : ℕ
  pub due : Due
  pub next : IsNext old.ended old.asked old.due old.unread (part p used due)
  pub is : new ≡ moved_on used due old

-- it has no further part, for this reason
pub record Halts (old : Reading) (why : Stop) (new : Reading) : Type 0 where
  pub next : IsNext old.ended old.asked old.due old.unread (none why)
  pub is : new ≡ awaiting_bytes old

-- ---- a line in pieces

-- what is done with a reader, in order: more text comes; the text ends; a part is handed on; or it has none
pub data Act : Type 0 where
  feeds : List ℕ → Act
  ends : Act
  hands : Part → Act
  halts : Stop → Act

abbrev pub Does : Reading → Act → Reading → Type 0
Does old (feeds bytes) new = (old.ended ≡ false) × (new ≡ reading_with_bytes bytes old)
Does old ends new = new ≡ reading_with_end old
Does old (hands p) new = Hands old p new
Does old (halts why) new = Halts old why new

abbrev pub DoesAll : Reading → List Act → Reading → Type 0
DoesAll old [] new = new ≡ old
DoesAll old (act ∷ acts) new = (mid : Reading) × Does old act mid × DoesAll mid acts new

-- the text that came, joined
abbrev pub text_of : List Act → List ℕ
text_of [] = []
text_of (feeds bytes ∷ acts) = bytes ++ text_of acts
text_of (ends ∷ acts) = text_of acts
text_of (hands p ∷ acts) = text_of acts
text_of (halts why ∷ acts) = text_of acts

-- the items that a part says, its bytes one by one
abbrev pub end_if : Bool → List Item
end_if false = []
end_if true = end ∷ []

abbrev pub head_item : Option (List ℕ) → Head → Item
head_item None h = request h
head_item (Some asked) h = response h

abbrev pub items_in : Option (List ℕ) → Part → List Item
items_in asked (head_part h) = head_item asked h ∷ []
items_in asked (interim_part h) = interim h ∷ []
items_in asked (piece bytes last) = map octet bytes ++ end_if last
items_in asked (trailer_part fields) = trailers fields ∷ []

-- the items that were handed on, however they were cut
abbrev pub items_handed : Option (List ℕ) → List Act → List Item
items_handed asked [] = []
items_handed asked (feeds bytes ∷ acts) = items_handed asked acts
items_handed asked (ends ∷ acts) = items_handed asked acts
items_handed asked (hands p ∷ acts) = items_in asked p ++ items_handed asked acts
items_handed asked (halts why ∷ acts) = items_handed asked acts

-- ---- all that is unread

-- From the place `at` of the text on, where that is due, these parts are unread, and then none follows for this reason.
abbrev pub Unread : List ℕ → Bool → Option (List ℕ) → Due → ℕ → List Part → Stop → Type 0
Unread text ended asked due at [] why = IsNext ended asked due (drop at text) (none why)
Unread text ended asked due at (p ∷ parts) why =
    (used : ℕ) × (next : Due) × IsNext ended asked due (drop at text) (part p used next) × Unread text ended asked next (at + used) parts why

-- the bytes that are held, as a piece, if there are any
abbrev pub held_piece : List ℕ → List Part
held_piece [] = []
held_piece (b ∷ bytes) = piece (b ∷ bytes) false ∷ []

-- The parts that items make, where these bytes are held in front of them: the bytes of a body are one run, which is cut after each
-- 16,384, and its last piece takes the end with it.
abbrev pub cut_behind : List ℕ → List Item → List Part
cut_behind held [] = held_piece held
cut_behind held (request h ∷ items) = held_piece held ++ head_part h ∷ cut_behind [] items
cut_behind held (interim h ∷ items) = held_piece held ++ interim_part h ∷ cut_behind [] items
cut_behind held (response h ∷ items) = held_piece held ++ head_part h ∷ cut_behind [] items
cut_behind held (octet b ∷ items) =
    if length held == piece_limit then piece held false ∷ cut_behind (b ∷ []) items else cut_behind (held ++ b ∷ []) items
cut_behind held (end ∷ items) = piece held true ∷ cut_behind [] items
cut_behind held (trailers fields ∷ items) = held_piece held ++ trailer_part fields ∷ cut_behind [] items
