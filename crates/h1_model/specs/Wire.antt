-- The bytes of a message on its way out (RFC 9112, sections 2 to 5).
use Rattle.std.specs.Prelude.{ℕ, Bool, ◌||◌, not, filter, bytes_eq, unwrap_or, List, [], ◌∷◌, ◌++◌, ◌==◌, codes, if◌then◌else◌}
use Rattle.std.specs.List.{flat_map}
use Rattle.httparse.specs.Ascii.{crlf_bytes, space}
use Rattle.http_header.specs.Token.{lowercase}
use Rattle.header_maps.specs.Headers.{Headers}
use Rattle.header_maps.specs.Operations.{first_of}
use Rattle.header_maps.specs.Pairs.{is_pseudo}
use Rattle.h1_model.specs.Fields.{Pair, is_dropped}
use Rattle.h1_model.specs.Head.{Head}

-- a field line: the name, a colon, a space and the value
abbrev pub field_line : Pair → List ℕ
field_line field = field.0 ++ codes ": " ++ field.1 ++ crlf_bytes

-- the field lines, in order
abbrev pub field_lines : List Pair → List ℕ
field_lines fields = flat_map field_line fields

-- a field does not go out with these fields: it is a pseudo-header, it ends at this hop, or the gateway writes it itself
abbrev pub is_left_out : List Pair → List ℕ → Bool
is_left_out fields name = is_pseudo name || (is_dropped fields name || bytes_eq name (codes "content-length"))

-- those of the fields that go out with all these fields
abbrev pub sent_among : List Pair → List Pair → List Pair
sent_among all fields = filter (λ (f : Pair). not (is_left_out all (lowercase f.0))) fields

abbrev pub sent_fields : List Pair → List Pair
sent_fields fields = sent_among fields fields

-- the value of a pseudo-header of the list
abbrev pub pseudo_of : Headers → List ℕ → List ℕ
pseudo_of headers name = unwrap_or (first_of headers name) []

-- the request line; a gateway writes its own version
abbrev pub request_line : Head → List ℕ
request_line head =
    pseudo_of head.fields (codes ":method") ++ space ∷ pseudo_of head.fields (codes ":path") ++ codes " HTTP/1.1" ++ crlf_bytes

-- a version: `1.0`, or `1.1`
abbrev pub version_text : ℕ → List ℕ
version_text minor = if minor == 0 then codes "1.0" else codes "1.1"

-- the version that was received, and the gateway's name (RFC 9110, section 7.6.3)
abbrev pub via_of : ℕ → Pair
via_of minor = (codes "via", version_text minor ++ codes " wasmgate")

-- the field that closes the line after one exchange (RFC 9112, section 9.6)
abbrev pub close_field : Pair
close_field = (codes "connection", codes "close")

-- the head of a request without a body that told no length, as it is sent up: the request line, `host`, the fields that go out in
-- order, `via`, `connection: close` and the empty line. The head's `tail`, which is empty, is not read.
abbrev pub wire_of : Head → List ℕ
wire_of head =
    request_line head ++ field_line (codes "host", pseudo_of head.fields (codes ":authority"))
    ++ field_lines (sent_fields head.fields.pairs)
    ++ field_line (via_of head.minor) ++ field_line close_field ++ crlf_bytes
