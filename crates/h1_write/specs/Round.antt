-- What is written of a message is read back as the same items, the bytes of its body joined.
use Rattle.std.specs.Prelude.{◌≡◌, ℕ, ◌≤◌, Bool, true, false, List, [], ◌∷◌, ◌++◌, ◌==◌, length, map, Option, None, Some, if◌then◌else◌}
use Rattle.std.specs.List.{concat, flat_map, list_all}
use Rattle.header_maps.specs.Headers.{Headers}
use Rattle.header_maps.specs.Kept.{AreFields}
use Rattle.h1_model.specs.Fields.{Pair}
use Rattle.h1_model.specs.Framing.{Framing, no_body, by_length, by_chunks, by_close, OutItem, piece, trailers, items_wire}
use Rattle.h1_model.specs.Length.{BodyLength, nothing, exactly, chunked, until_end}
use Rattle.h1_model.specs.Lines.{head_limit}
use Rattle.h1_model.specs.Messages as read
use Rattle.h1_model.specs.Messages.{Item, octet, end, Placed, Due, head, Stop, rest, over, item, due_behind, due_next, trailers_left, StepsTo, SpellsFrom, Messages}
use Rattle.h1_model.specs.ReadingLaws.{item_at}
use Rattle.h1_model.specs.Wire.{sent_fields}
use Rattle.h1_write.specs.Laws.{is_short, middle_items, section_wire, read_field}

-- ---- a body on its way out

-- how it ends: with these bytes, or with trailers
pub data Ending : Type 0 where
  last_bytes : List ℕ → Ending
  last_trailers : Headers → Ending

abbrev pub ending_item : Ending → OutItem
ending_item (last_bytes bytes) = piece bytes true
ending_item (last_trailers fields) = trailers fields

-- the items of a body that comes in these pieces and ends so
abbrev pub body_items : List (List ℕ) → Ending → List OutItem
body_items pieces ending = middle_items pieces ++ ending_item ending ∷ []

-- all its pieces, and its bytes
abbrev pub all_pieces : List (List ℕ) → Ending → List (List ℕ)
all_pieces pieces (last_bytes bytes) = pieces ++ bytes ∷ []
all_pieces pieces (last_trailers fields) = pieces

abbrev pub body_bytes : List (List ℕ) → Ending → List ℕ
body_bytes pieces ending = concat (all_pieces pieces ending)

-- trailers are such as every list without pseudo-headers keeps, and have room in the section of a reader
abbrev pub FitsSection : Ending → Type 0
FitsSection (last_bytes bytes) = Unit {0}
FitsSection (last_trailers fields) = AreFields fields.pairs × (length (section_wire fields) ≤ head_limit)

-- A body is one that its framing can carry: it has as many bytes as are told; each chunk is short enough for a size line, and
-- trailers are fields; or the line ends after it. (`behind` is the text after it, and `ended` says that no more follows.)
abbrev pub Suits : Framing → List (List ℕ) → Ending → Bool → List ℕ → Type 0
Suits no_body pieces ending ended behind = Unit {0}
Suits (by_length n) pieces ending ended behind = length (body_bytes pieces ending) ≡ n
Suits by_chunks pieces ending ended behind = (list_all is_short (all_pieces pieces ending) ≡ true) × FitsSection ending
Suits by_close pieces ending ended behind = (ended ≡ true) × (behind ≡ [])

-- ---- what is read

-- the length of a body that a framing says; that of 0 bytes is no body
abbrev pub length_said : Framing → BodyLength
length_said no_body = nothing
length_said (by_length n) = if n == 0 then nothing else exactly n
length_said by_chunks = chunked
length_said by_close = until_end

-- the end of a body of which these trailers are left
abbrev pub end_item : List Pair → Item
end_item [] = end
end_item (f ∷ fields) = read.trailers (f ∷ fields)

-- the end in the chunked coding: of the trailers that went out those are left that a reader keeps, which drops what the head's
-- Connection lists
abbrev pub chunked_end : Option (List ℕ) → List (List ℕ) → Ending → Item
chunked_end asked connection (last_bytes bytes) = end
chunked_end asked connection (last_trailers fields) = end_item (trailers_left asked connection (map read_field (sent_fields fields.pairs)))

-- The items that a body of this length is read as: its bytes, one item each, and its end. A message without a body has none of
-- its own; and trailers come through in chunks alone.
abbrev pub items_read : Option (List ℕ) → List (List ℕ) → BodyLength → List (List ℕ) → Ending → List Item
items_read asked connection nothing pieces ending = []
items_read asked connection (exactly n) pieces ending = map octet (body_bytes pieces ending) ++ end ∷ []
items_read asked connection chunked pieces ending = map octet (body_bytes pieces ending) ++ chunked_end asked connection ending ∷ []
items_read asked connection until_end pieces ending = map octet (body_bytes pieces ending) ++ end ∷ []

-- the place after the last of the items
abbrev pub place_behind : ℕ → List Placed → ℕ
place_behind at [] = at
place_behind at (p ∷ placed) = place_behind p.to placed

-- In a text in which this is due after `front`, the bytes of `wire` are read as these items, which use up all of them, and then
-- `next` is due: whatever the text spells from there on, it spells these items in front of that.
pub record ReadsAs (ended : Bool) (asked : Option (List ℕ)) (due : Due) (front wire behind : List ℕ) (items : List Item) (next : Due) : Type 0 where
  pub placed : List Placed
  pub are : map item_at placed ≡ items
  pub uses_all : place_behind (length front) placed ≡ length (front ++ wire)
  pub spelled : (later : List Placed) (why : Stop) → SpellsFrom (front ++ (wire ++ behind)) ended asked next (length (front ++ wire)) later why
      → SpellsFrom (front ++ (wire ++ behind)) ended asked due (length front) (placed ++ later) why

-- a whole text is read as these items, which use up all of it, and then stops so
pub record IsReadAs (text : List ℕ) (ended : Bool) (asked : Option (List ℕ)) (due : Due) (items : List Item) (why : Stop) : Type 0 where
  pub placed : List Placed
  pub are : map item_at placed ≡ items
  pub uses_all : place_behind 0 placed ≡ length text
  pub spelled : SpellsFrom text ended asked due 0 placed why

-- after a whole message: nothing of a text of requests is left, which ended or goes on; a response is whole
abbrev pub stop_behind : Bool → Option (List ℕ) → Stop
stop_behind ended None = if ended then over else rest
stop_behind ended (Some asked) = over

-- ---- the laws

-- BODIES. What is written of a body in any framing, from where it is due in any text, is read as its bytes, joined and in order,
-- and its end, however the bytes came in pieces; and then what is due after a message.
abbrev pub BodyReadBack : Type 0
BodyReadBack =
    (framing : Framing) (pieces : List (List ℕ)) (ending : Ending) (ended : Bool) (asked : Option (List ℕ)) (connection : List (List ℕ))
    (front behind : List ℕ) → Suits framing pieces ending ended behind
    → ReadsAs ended asked (due_behind (due_next asked) connection (length_said framing)) front (items_wire framing (body_items pieces ending)) behind
    (items_read asked connection (length_said framing) pieces ending) (due_next asked)

-- where nothing follows, the reading stops
abbrev pub BodyIsAll : Type 0
BodyIsAll =
    (framing : Framing) (pieces : List (List ℕ)) (ending : Ending) (ended : Bool) (asked : Option (List ℕ)) (connection : List (List ℕ))
    → Suits framing pieces ending ended []
    → IsReadAs (items_wire framing (body_items pieces ending)) ended asked (due_behind (due_next asked) connection (length_said framing))
    (items_read asked connection (length_said framing) pieces ending) (stop_behind ended asked)

-- what is read after another is read after it
abbrev pub ReadingsJoin : Type 0
ReadingsJoin =
    (ended : Bool) (asked : Option (List ℕ)) (due mid next : Due) (front wire more behind : List ℕ) (xs ys : List Item)
    → ReadsAs ended asked due front wire (more ++ behind) xs mid → ReadsAs ended asked mid (front ++ wire) more behind ys next
    → ReadsAs ended asked due front (wire ++ more) behind (xs ++ ys) next

-- the bytes of a head, after which its framing says the length of a body
abbrev pub IsHeadWith : Option (List ℕ) → List ℕ → Item → List (List ℕ) → Framing → Type 0
IsHeadWith asked bytes i connection framing =
    StepsTo false asked head bytes (item i (length bytes) (due_behind (due_next asked) connection (length_said framing)))

-- A head's bytes are read as that head wherever a head is due.
abbrev pub HeadReadBack : Type 0
HeadReadBack =
    (bytes : List ℕ) (i : Item) (next : Due) (ended : Bool) (asked : Option (List ℕ)) (front behind : List ℕ)
    → StepsTo false asked head bytes (item i (length bytes) next) → ReadsAs ended asked head front bytes behind (i ∷ []) next

-- WHOLE MESSAGES. A head's bytes and then what is written of the body that it says are read as the head and the body's items.
abbrev pub MessageReadBack : Type 0
MessageReadBack =
    (bytes : List ℕ) (i : Item) (framing : Framing) (pieces : List (List ℕ)) (ending : Ending) (ended : Bool) (asked : Option (List ℕ))
    (connection : List (List ℕ)) (front behind : List ℕ) → IsHeadWith asked bytes i connection framing → Suits framing pieces ending ended behind
    → ReadsAs ended asked head front (bytes ++ items_wire framing (body_items pieces ending)) behind
    (i ∷ items_read asked connection (length_said framing) pieces ending) (due_next asked)

-- and nothing else, where they are the whole text
abbrev pub MessageIsAll : Type 0
MessageIsAll =
    (bytes : List ℕ) (i : Item) (framing : Framing) (pieces : List (List ℕ)) (ending : Ending) (ended : Bool) (asked : Option (List ℕ))
    (connection : List (List ℕ)) → IsHeadWith asked bytes i connection framing → Suits framing pieces ending ended []
    → IsReadAs (bytes ++ items_wire framing (body_items pieces ending)) ended asked head
    (i ∷ items_read asked connection (length_said framing) pieces ending) (stop_behind ended asked)

-- ---- whole lines

-- a message on its way out: the bytes of its head, the item that they are read as with the values of its Connection fields, and
-- its body
pub record Sent : Type 0 where
  pub bytes : List ℕ
  pub item : Item
  pub connection : List (List ℕ)
  pub framing : Framing
  pub pieces : List (List ℕ)
  pub ending : Ending

abbrev pub sent_wire : Sent → List ℕ
sent_wire s = s.bytes ++ items_wire s.framing (body_items s.pieces s.ending)

abbrev pub sent_items : Option (List ℕ) → Sent → List Item
sent_items asked s = s.item ∷ items_read asked s.connection (length_said s.framing) s.pieces s.ending

-- each is a request, whose body does not end with the line
abbrev pub AreRequests : List Sent → Type 0
AreRequests [] = Unit {0}
AreRequests (s ∷ sent) = IsHeadWith None s.bytes s.item s.connection s.framing × Suits s.framing s.pieces s.ending false [] × AreRequests sent

-- REQUESTS one after another, which ended or go on, are read as the items of each, in order.
abbrev pub RequestsReadBack : Type 0
RequestsReadBack =
    (sent : List Sent) (ended : Bool) → AreRequests sent
    → IsReadAs (flat_map sent_wire sent) ended None head (flat_map (sent_items None) sent) (stop_behind ended None)

-- heads after which the response is still due: the bytes of each, and the item that they are read as
abbrev pub AreInterims : List ℕ → List (List ℕ × Item) → Type 0
AreInterims asked [] = Unit {0}
AreInterims asked (h ∷ heads) = StepsTo false (Some asked) head h.0 (item h.1 (length h.0) head) × AreInterims asked heads

abbrev pub bytes_at : List ℕ × Item → List ℕ
bytes_at h = h.0

abbrev pub head_at : List ℕ × Item → Item
head_at h = h.1

-- AN ANSWER, with any interim heads in front of it, is read as these heads and its items.
abbrev pub AnswerReadBack : Type 0
AnswerReadBack =
    (asked : List ℕ) (heads : List (List ℕ × Item)) (s : Sent) (ended : Bool) → AreInterims asked heads
    → IsHeadWith (Some asked) s.bytes s.item s.connection s.framing → Suits s.framing s.pieces s.ending ended []
    → IsReadAs (flat_map bytes_at heads ++ sent_wire s) ended (Some asked) head (map head_at heads ++ sent_items (Some asked) s) over
