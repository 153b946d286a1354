-- How a message is framed on its way out, and its bytes (RFC 9112, sections 2 to 7; RFC 9110, section 8.6).
use Rattle.std.specs.Prelude.{ℕ, Bool, true, ◌||◌, not, List, [], ◌++◌, ◌==◌, Option, None, Some, codes, decimal, nat_lt, if◌then◌else◌}
use Rattle.std.specs.List.{flat_map}
use Rattle.httparse.specs.Ascii.{crlf_bytes}
use Rattle.header_maps.specs.declared.kind.ListKind.{ListKind}
use Rattle.header_maps.specs.declared.kind.ListKind.TheVariants as kinds
use Rattle.header_maps.specs.Headers.{Headers}
use Rattle.h1_model.specs.ChunkWire.{chunk_of, body_end}
use Rattle.h1_model.specs.Fields.{Pair}
use Rattle.h1_model.specs.Head.{Head}
use Rattle.h1_model.specs.Length.{BodyLength, nothing, exactly, chunked, until_end}
use Rattle.h1_model.specs.Wire.{field_line, field_lines, sent_fields, pseudo_of, request_line}

-- ---- the choice

-- how a message on its way out says where its body ends: it has no body and says nothing of one; by Content-Length; by the
-- chunked coding; or by the end of the line, which a response alone may use
pub data Framing : Type 0 where
  no_body : Framing
  by_length : ℕ → Framing
  by_chunks : Framing
  by_close : Framing

-- a message may tell a length: a request, which has no status, or a response that was received with a status other than 1xx
-- and 204 (RFC 9110, section 8.6)
abbrev pub may_tell : Option ℕ → Bool
may_tell None = true
may_tell (Some status) = not (nat_lt status 200 || status == 204)

-- the number that Content-Length told, if it did
abbrev pub told_framing : Option ℕ → Framing
told_framing None = no_body
told_framing (Some n) = by_length n

-- of a message without a body; so the response to a HEAD request, and one of 304, keep the length that they told
abbrev pub bare_framing : Option ℕ → Option ℕ → Framing
bare_framing status told = if may_tell status then told_framing told else no_body

-- that in which a body was received
abbrev pub kept_framing : BodyLength → Framing
kept_framing nothing = no_body
kept_framing (exactly n) = by_length n
kept_framing chunked = by_chunks
kept_framing until_end = by_close

-- A body that a filter may change has no length that is known beforehand.
abbrev pub body_framing : Bool → BodyLength → Framing
body_framing filtered len = if filtered then by_chunks else kept_framing len

-- a client of HTTP/1.0 knows no chunks (RFC 9112, section 6.1)
abbrev pub for_client : Bool → Framing → Framing
for_client old no_body = no_body
for_client old (by_length n) = by_length n
for_client old by_chunks = if old then by_close else by_chunks
for_client old by_close = by_close

-- The framing of a message that goes out. `bare` says that its head leaves with an end flag; `filtered`, that a filter of its
-- route exports the callback for bodies of this direction; `old_client`, that it is a response to a client of HTTP/1.0.
-- `status` is the status that a response was received with, and none of a request; `told` and `len` are what the head that was
-- received says of its body.
abbrev pub framing_of : Bool → Bool → Bool → Option ℕ → Option ℕ → BodyLength → Framing
framing_of bare filtered old_client status told len =
    for_client old_client (if bare then bare_framing status told else body_framing filtered len)

-- ---- the bytes

-- an item of a message on its way out: the head of a request or of a response, an interim head, bytes of the body, or trailers;
-- `last` says that the body ends with these bytes, and that no trailers follow
pub data OutItem : Type 0 where
  head : Head → OutItem
  interim : Head → OutItem
  piece : List ℕ → Bool → OutItem
  trailers : Headers → OutItem

-- the field that tells the framing; none where the line's end, or nothing, does
abbrev pub framing_line : Framing → List ℕ
framing_line no_body = []
framing_line (by_length n) = field_line (codes "content-length", decimal n)
framing_line by_chunks = field_line (codes "transfer-encoding", codes "chunked")
framing_line by_close = []

-- the status line; a gateway writes its own version, and no reason after the space (RFC 9112, section 4)
abbrev pub response_line : Headers → List ℕ
response_line headers = codes "HTTP/1.1 " ++ pseudo_of headers (codes ":status") ++ codes " " ++ crlf_bytes

-- what stands in front of the fields: the request line and `host`, or the status line
abbrev pub start_lines : Head → ListKind → List ℕ
start_lines h kinds.Request = request_line h ++ field_line (codes "host", pseudo_of h.fields (codes ":authority"))
start_lines h kinds.Response = response_line h.fields
start_lines h kinds.Interim = response_line h.fields
start_lines h kinds.Plain = []

-- a head: its first lines, the fields that go out in order, the framing field, the tail and the empty line
abbrev pub head_wire : Framing → Head → List ℕ
head_wire framing h =
    start_lines h h.fields.kind ++ field_lines (sent_fields h.fields.pairs) ++ framing_line framing
    ++ field_lines h.tail.pairs ++ crlf_bytes

-- the end of a chunked body without trailers, where these bytes are its last
abbrev pub end_wire : Bool → List ℕ
end_wire last = if last then body_end [] else []

-- bytes of a body: one chunk of them, and the last chunk where they are the last; or the bytes as they are; or nothing, where
-- the message has no body
abbrev pub piece_wire : Framing → List ℕ → Bool → List ℕ
piece_wire no_body bytes last = []
piece_wire (by_length n) bytes last = bytes
piece_wire by_chunks bytes last = chunk_of bytes ++ end_wire last
piece_wire by_close bytes last = bytes

-- trailers, which only chunks have room for (RFC 9112, section 7.1.2)
abbrev pub trailer_wire : Framing → List Pair → List ℕ
trailer_wire no_body fields = []
trailer_wire (by_length n) fields = []
trailer_wire by_chunks fields = body_end (sent_fields fields)
trailer_wire by_close fields = []

-- the bytes of an item of a message that is framed so; an interim head has no body, whatever frames the response after it
abbrev pub item_wire : Framing → OutItem → List ℕ
item_wire framing (head h) = head_wire framing h
item_wire framing (interim h) = head_wire no_body h
item_wire framing (piece bytes last) = piece_wire framing bytes last
item_wire framing (trailers fields) = trailer_wire framing fields.pairs

-- the bytes of a message's items, in order
abbrev pub items_wire : Framing → List OutItem → List ℕ
items_wire framing items = flat_map (item_wire framing) items
