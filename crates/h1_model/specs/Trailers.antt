-- The trailer section after the last chunk (RFC 9112, section 7.1.2), and what comes next in a chunked body.
use Rattle.std.specs.Prelude.{◌≡◌, ℕ, ◌+◌, Bool, ◌||◌, not, List, [], ◌∷◌, length, take, drop, map, filter, Option, None, Some, codes, bytes_eq}
use Rattle.std.specs.List.{list_any}
use Rattle.httparse.specs.Grammar.{LineEnd, Field, ReadsSection}
use Rattle.httparse.specs.Spans.{name_and_value}
use Rattle.h1_model.specs.Fields.{Pair, is_listed, lowercase_name}
use Rattle.h1_model.specs.Lines.{head_limit, Cut, whole, too_large, unfinished, whole_lines, section_of, cut_lines}
use Rattle.h1_model.specs.Chunks as chunks

-- ---- fields

-- the names of fields that end at this hop, and `content-length`, which says nothing in a trailer section (RFC 9110,
-- sections 6.5.1 and 7.6.1)
abbrev pub trailer_names : List (List ℕ)
trailer_names =
    codes "connection" ∷ codes "keep-alive" ∷ codes "proxy-connection" ∷ codes "te" ∷ codes "transfer-encoding"
    ∷ codes "upgrade" ∷ codes "content-length" ∷ []

-- a field of this name, in lower case, is dropped from a trailer section with these fields
abbrev pub is_trailer_dropped : List Pair → List ℕ → Bool
is_trailer_dropped fields name = list_any (bytes_eq name) trailer_names || is_listed name fields

-- of some of the fields of a section with all these fields, those that are kept, in order, with their names in lower case
abbrev pub trailers_among : List Pair → List Pair → List Pair
trailers_among all fields = filter (λ (f : Pair). not (is_trailer_dropped all f.0)) (map lowercase_name fields)

abbrev pub kept_trailers : List Pair → List Pair
kept_trailers fields = trailers_among fields fields

-- ---- sections

-- the section at the front of a text, of which no more is looked at
abbrev pub window_section : List ℕ → Cut
window_section window = let lines = whole_lines window in cut_lines (length window) 0 (length lines) (section_of lines)

-- Where a trailer section ends, its empty line with it. It has the bounds of a head, the last chunk's size line being its first
-- line: 65,536 bytes from after that line, and 100 field lines.
abbrev pub section_cut : List ℕ → Cut
section_cut text = window_section (take head_limit text)

-- the text of a whole section is read as field lines, of which these are kept
pub record IsSectionText (front : List ℕ) (trailers : List Pair) : Type 0 where
  pub fields : List Field
  pub last : LineEnd
  pub reads : ReadsSection front fields last []
  pub are : trailers ≡ kept_trailers (map name_and_value fields)

-- what a whole section's text gives: its trailers, or none where it is no field lines
abbrev pub IsSection : List ℕ → Option (List Pair) → Type 0
IsSection front None = (fields : List Field) (last : LineEnd) → ReadsSection front fields last [] → ⊥
IsSection front (Some trailers) = IsSectionText front trailers

-- ---- what comes next

-- bytes of data; the end of the body with its trailers, and how many bytes it uses up; nothing as yet; or a refusal's number
pub data ChunkStep : Type 0 where
  carried : chunks.Run → ChunkStep
  ended : List Pair → ℕ → ChunkStep
  not_yet : ChunkStep
  refused : ℕ → ChunkStep

-- a body's end, where its trailer section ends at this place
abbrev pub end_of : ℕ → Option (List Pair) → ChunkStep
end_of used None = refused 400
end_of used (Some trailers) = ended trailers used

pub record EndsWith (at : ℕ) (front : List ℕ) (step : ChunkStep) : Type 0 where
  pub trailers : Option (List Pair)
  pub section : IsSection front trailers
  pub is : step ≡ end_of (at + length front) trailers

-- a section whose end is this; one that is past a bound is malformed, and not a head that is too large
abbrev pub IsEnd : ℕ → List ℕ → Cut → ChunkStep → Type 0
IsEnd at text (whole len) step = EndsWith at (take len text) step
IsEnd at text too_large step = step ≡ refused 400
IsEnd at text unfinished step = step ≡ not_yet

-- the place after a step: that after the data, that after the body's end, or the place as it was
abbrev pub place_after : chunks.Place → ChunkStep → chunks.Place
place_after place (carried run) = run.place
place_after place (ended trailers used) = chunks.over
place_after place not_yet = place
place_after place (refused number) = place

-- how many bytes of data come at a time, at most
abbrev pub piece_limit : ℕ
piece_limit = 16384

abbrev pub IsBehind : chunks.Place → List ℕ → chunks.Sought → ChunkStep → Type 0
IsBehind place text (chunks.data_at at left) step = step ≡ carried (chunks.run_of piece_limit place text)
IsBehind place text (chunks.section_at at) step = IsEnd at (drop at text) (section_cut (drop at text)) step
IsBehind place text chunks.waiting step = step ≡ not_yet
IsBehind place text chunks.malformed step = step ≡ refused 400

-- What a text spells from a place in a chunked body on: up to 16,384 bytes of data, however many chunks they come in; or the
-- body's end; or nothing as yet; or it is refused. A size line and the CR LF after a chunk's data are refused as soon as no
-- bytes that follow can make them right, a trailer section when its empty line has come or it is past a bound. (Malformed: 400.
-- Of a response it is the reader of messages that says 502.)
abbrev pub SpellsChunks : chunks.Place → List ℕ → ChunkStep → Type 0
SpellsChunks place text step = IsBehind place text (chunks.sought place text) step
