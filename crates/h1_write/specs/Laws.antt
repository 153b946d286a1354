-- What is written of a chunked body is read back.
use Rattle.std.specs.Prelude.{◌≡◌, ℕ, ◌+◌, ◌≤◌, Bool, true, false, List, [], ◌∷◌, ◌++◌, length, map, drop, nat_le}
use Rattle.std.specs.List.{concat, list_all}
use Rattle.httparse.specs.Ascii.{crlf_bytes}
use Rattle.httparse.specs.Grammar.{trim_ows}
use Rattle.header_maps.specs.Headers.{Headers}
use Rattle.header_maps.specs.Kept.{AreFields}
use Rattle.h1_model.specs.Chunks.{Place, start, sought, section_at, Run, run_of}
use Rattle.h1_model.specs.Fields.{Pair}
use Rattle.h1_model.specs.Framing.{OutItem, piece, trailers, by_chunks, items_wire}
use Rattle.h1_model.specs.Length.{length_limit}
use Rattle.h1_model.specs.Lines.{head_limit}
use Rattle.h1_model.specs.Trailers.{SpellsChunks, ended}
use Rattle.h1_model.specs.Wire.{field_lines, sent_fields}

-- a piece is short enough for a size line, whose number is below 2^63
abbrev pub is_short : List ℕ → Bool
is_short bytes = nat_le (length bytes) length_limit

-- Of a text, from a place on, at most so many bytes of data are carried: it carries these, and after them a trailer section is
-- due, which is the rest of it.
pub record ReadsFrom (room : ℕ) (place : Place) (text bytes section : List ℕ) : Type 0 where
  pub carried : (run_of room place text).bytes ≡ bytes
  pub at : ℕ
  pub due : sought (run_of room place text).place (drop (run_of room place text).used text) ≡ section_at at
  pub rest : drop at (drop (run_of room place text).used text) ≡ section

-- the items of a body up to its end
abbrev pub middle_items : List (List ℕ) → List OutItem
middle_items pieces = map (λ bytes. piece bytes false) pieces

-- a chunked body that ends with a piece
abbrev pub body_wire : List (List ℕ) → List ℕ → List ℕ
body_wire pieces last = items_wire by_chunks (middle_items pieces ++ piece last true ∷ [])

-- However the bytes of a body come in pieces, the reader of chunks carries all of them, in order, and then comes the empty line
-- of a section without trailers; an empty piece adds nothing.
abbrev pub PiecesReadBack : Type 0
PiecesReadBack =
    (pieces : List (List ℕ)) (last : List ℕ) (room : ℕ) → list_all is_short (pieces ++ last ∷ []) ≡ true
    → length (concat (pieces ++ last ∷ [])) ≤ room
    → ReadsFrom room start (body_wire pieces last) (concat (pieces ++ last ∷ [])) crlf_bytes

-- after the bytes the body has its end with these trailers, which uses up all that was written
pub record EndsThere (text : List ℕ) (run : Run) (fields : List Pair) : Type 0 where
  pub used : ℕ
  pub spelled : SpellsChunks run.place (drop run.used text) (ended fields used)
  pub all : run.used + used ≡ length text

abbrev pub EndReadBack : Type 0
EndReadBack =
    (pieces : List (List ℕ)) (last : List ℕ) (room : ℕ) → list_all is_short (pieces ++ last ∷ []) ≡ true
    → length (concat (pieces ++ last ∷ [])) ≤ room
    → EndsThere (body_wire pieces last) (run_of room start (body_wire pieces last)) []

-- a chunked body that ends with trailers
abbrev pub trailed_wire : List (List ℕ) → Headers → List ℕ
trailed_wire pieces fields = items_wire by_chunks (middle_items pieces ++ trailers fields ∷ [])

-- the section of trailers: the lines of those that go out, and the empty line
abbrev pub section_wire : Headers → List ℕ
section_wire fields = field_lines (sent_fields fields.pairs) ++ crlf_bytes

-- with trailers, their section is what stands after the bytes
abbrev pub TrailersReadBack : Type 0
TrailersReadBack =
    (pieces : List (List ℕ)) (fields : Headers) (room : ℕ) → list_all is_short pieces ≡ true → length (concat pieces) ≤ room
    → ReadsFrom room start (trailed_wire pieces fields) (concat pieces) (section_wire fields)

-- a field as it is read: its value without the blanks around it
abbrev pub read_field : Pair → Pair
read_field field = (field.0, trim_ows field.1)

-- and the body ends with exactly the trailers that go out, where they are such as every list without pseudo-headers keeps, and
-- have room in the section of a reader
abbrev pub TrailedEndReadBack : Type 0
TrailedEndReadBack =
    (pieces : List (List ℕ)) (fields : Headers) (room : ℕ) → list_all is_short pieces ≡ true → length (concat pieces) ≤ room
    → AreFields fields.pairs → length (section_wire fields) ≤ head_limit
    → EndsThere (trailed_wire pieces fields) (run_of room start (trailed_wire pieces fields)) (map read_field (sent_fields fields.pairs))
