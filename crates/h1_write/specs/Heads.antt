-- The head of a response that is written is read back as a head.
use Rattle.std.specs.Prelude.{◌≡◌, ◌≤◌, ℕ, Bool, true, false, ◌||◌, not, List, [], ◌∷◌, ◌++◌, ◌==◌, map, length, None, Some, codes, decimal, bytes_eq, if◌then◌else◌}
use Rattle.std.specs.List.{list_all}
use Rattle.std.specs.Str.Parse.{digits_value}
use Rattle.header_maps.specs.declared.kind.ListKind.{ListKind}
use Rattle.header_maps.specs.declared.kind.ListKind.TheVariants as kinds
use Rattle.header_maps.specs.Headers.{Headers}
use Rattle.header_maps.specs.Kept.{is_kept_field, IsHeaders}
use Rattle.header_maps.specs.Operations.{no_headers}
use Rattle.h1_model.specs.Fields.{Pair, values_of, is_listed, fields_not_listed, kept_response_fields}
use Rattle.h1_model.specs.Framing.{Framing, no_body, by_length, by_chunks, by_close, piece, items_wire, head_wire}
use Rattle.h1_model.specs.Framing as out
use Rattle.h1_model.specs.Head.{Head, found, SpellsResponse}
use Rattle.h1_model.specs.Length.{nothing, exactly, chunked, Measure, open_measure, length_limit, is_without_body, without_body}
use Rattle.h1_model.specs.Lines.{head_limit, line_limit}
use Rattle.h1_model.specs.Messages.{response, interim, head, over}
use Rattle.h1_model.specs.Wire.{sent_fields, pseudo_of}
use Rattle.h1_write.specs.Laws.{read_field}
use Rattle.h1_write.specs.Round.{Ending, body_items, Suits, length_said, items_read, ReadsAs, IsReadAs}

-- ---- what is written

-- the field that tells the framing
abbrev pub framing_fields : Framing → List Pair
framing_fields no_body = []
framing_fields (by_length n) = (codes "content-length", decimal n) ∷ []
framing_fields by_chunks = (codes "transfer-encoding", codes "chunked") ∷ []
framing_fields by_close = []

-- the fields of a response head as they are written, in order
abbrev pub written_fields : Framing → Head → List Pair
written_fields framing h = sent_fields h.fields.pairs ++ (framing_fields framing ++ h.tail.pairs)

-- a list of the kind that the head of a response has, or an interim one
abbrev pub is_answer_kind : ListKind → Bool
is_answer_kind kinds.Request = false
is_answer_kind kinds.Response = true
is_answer_kind kinds.Interim = true
is_answer_kind kinds.Plain = false

-- the status that such a list says
abbrev pub status_said : Headers → ℕ
status_said headers = digits_value 10 (pseudo_of headers (codes ":status"))

abbrev pub is_framing_name : List ℕ → Bool
is_framing_name name = bytes_eq name (codes "content-length") || bytes_eq name (codes "transfer-encoding")

-- fields that may stand after the framing field: as a list keeps them, and none that tells a framing
pub record IsTail (fields : List Pair) : Type 0 where
  pub kept : list_all is_kept_field fields ≡ true
  pub plain : list_all (λ (f : Pair). not (is_framing_name f.0)) fields ≡ true

-- a length that is told is at most the largest
abbrev pub IsInLimit : Framing → Type 0
IsInLimit no_body = Unit {0}
IsInLimit (by_length n) = n ≤ length_limit
IsInLimit by_chunks = Unit {0}
IsInLimit by_close = Unit {0}

-- A head of a response that a reader takes in once it is written: its list is one of its kind, with a status other than 101, and
-- all that is written has room in a reader.
pub record IsReadable (framing : Framing) (h : Head) : Type 0 where
  pub kind : is_answer_kind h.fields.kind ≡ true
  pub list : IsHeaders h.fields
  pub other : status_said h.fields ≡ 101 → ⊥
  pub tail : IsTail h.tail.pairs
  pub told : IsInLimit framing
  pub few : length (written_fields framing h) ≤ line_limit
  pub short : length (head_wire framing h) ≤ head_limit

-- ---- what is read

-- what a response that is framed so tells; one that tells nothing goes on until the line ends
abbrev pub measure_said : Framing → Measure
measure_said no_body = open_measure
measure_said (by_length n) = record { length = if n == 0 then nothing else exactly n; told = Some n }
measure_said by_chunks = record { length = chunked; told = None }
measure_said by_close = open_measure

-- of the framing fields a list keeps Content-Length
abbrev pub told_fields : Framing → List Pair
told_fields no_body = []
told_fields (by_length n) = (codes "content-length", decimal n) ∷ []
told_fields by_chunks = []
told_fields by_close = []

-- the fields of the tail as they are read
abbrev pub tail_read : Head → List Pair
tail_read h = map read_field h.tail.pairs

-- the values of Connection as they are read, which only the tail has
abbrev pub connection_read : Head → List (List ℕ)
connection_read h = values_of (codes "connection") (tail_read h)

-- The fields of the list that is read: those that went out, without the blanks around their values, but for those that the tail's
-- Connection lists; and what passes of the tail.
abbrev pub fields_read : Framing → Head → List Pair
fields_read framing h =
    fields_not_listed (connection_read h) (map read_field (sent_fields h.fields.pairs ++ told_fields framing)) ++ kept_response_fields (tail_read h)

-- the head that is read: the same status, and the length that the framing says where such a response has a body
abbrev pub head_read : Bool → Framing → Head → Head
head_read to_head framing h =
    let measure = without_body (is_without_body to_head (status_said h.fields)) (measure_said framing) in
    record {
      fields = record { kind = h.fields.kind; pairs = (codes ":status", pseudo_of h.fields (codes ":status")) ∷ fields_read framing h };
      tail = no_headers;
      form = None;
      minor = 1;
      length = measure.length;
      told = measure.told;
      close = is_listed (codes "close") (tail_read h);
      connection = connection_read h;
    }

-- ---- the laws

-- A head of a response that is written is read as that head, and uses up all that was written.
abbrev pub ResponseHeadReadBack : Type 0
ResponseHeadReadBack =
    (to_head : Bool) (framing : Framing) (h : Head) → IsReadable framing h
    → SpellsResponse to_head (head_wire framing h) (found (head_read to_head framing h) (length (head_wire framing h)))

-- an interim head, wherever the response is due: it has no framing field, and the response is still due after it
abbrev pub InterimReadBack : Type 0
InterimReadBack =
    (asked : List ℕ) (framing : Framing) (h : Head) (ended : Bool) (front behind : List ℕ) → IsReadable no_body h → h.fields.kind ≡ kinds.Interim
    → ReadsAs ended (Some asked) head front (items_wire framing (out.interim h ∷ [])) behind
    (interim (head_read (bytes_eq asked (codes "HEAD")) no_body h) ∷ []) head

-- the framing of a response that has a body
abbrev pub frames_body : Framing → Bool
frames_body no_body = false
frames_body (by_length n) = true
frames_body by_chunks = true
frames_body by_close = true

-- A WHOLE RESPONSE with a body is read as its head and that body.
abbrev pub ResponseReadBack : Type 0
ResponseReadBack =
    (asked : List ℕ) (framing : Framing) (h : Head) (pieces : List (List ℕ)) (ending : Ending) (ended : Bool) → IsReadable framing h
    → h.fields.kind ≡ kinds.Response → is_without_body (bytes_eq asked (codes "HEAD")) (status_said h.fields) ≡ false → frames_body framing ≡ true
    → Suits framing pieces ending ended []
    → IsReadAs (items_wire framing (out.head h ∷ body_items pieces ending)) ended (Some asked) head
    (response (head_read (bytes_eq asked (codes "HEAD")) framing h) ∷ items_read (Some asked) (connection_read h) (length_said framing) pieces ending) over

-- and one without a body, as that to a HEAD request or one of 204 or 304, as its head alone, whatever length it tells
abbrev pub BareResponseReadBack : Type 0
BareResponseReadBack =
    (asked : List ℕ) (framing : Framing) (h : Head) (ended : Bool) → IsReadable framing h → h.fields.kind ≡ kinds.Response
    → is_without_body (bytes_eq asked (codes "HEAD")) (status_said h.fields) ≡ true
    → IsReadAs (items_wire framing (out.head h ∷ [])) ended (Some asked) head (response (head_read (bytes_eq asked (codes "HEAD")) framing h) ∷ []) over
