-- The bytes of a response that a gateway answers by itself (RFC 9110, sections 6.6.1, 8.6 and 15; RFC 9112, sections 4 and 9.6).
use Rattle.std.specs.Prelude.{ℕ, Bool, false, List, [], ◌++◌, length, codes, decimal, if◌then◌else◌}
use Rattle.std.specs.List.{list_any}
use Rattle.httparse.specs.Ascii.{crlf_bytes}
use Rattle.header_maps.specs.Judged.{status_text}
use Rattle.h1_model.specs.Fields.{Pair, is_named}
use Rattle.h1_model.specs.Length.{is_without_body}
use Rattle.h1_model.specs.Moment.{moment_text}
use Rattle.h1_model.specs.Wire.{field_line, field_lines, sent_fields, close_field}

-- the status line: the gateway's version, three digits, and an empty reason after its space
abbrev pub status_line : ℕ → List ℕ
status_line status = codes "HTTP/1.1 " ++ status_text status ++ codes " " ++ crlf_bytes

-- the length of the body, whether or not it is sent; a response whose status allows no body tells none
abbrev pub length_line : ℕ → List ℕ → List ℕ
length_line status body =
    if is_without_body false status then [] else field_line (codes "content-length", decimal (length body))

-- one of the fields that are sent is a date
abbrev pub has_date : List Pair → Bool
has_date sent = list_any (is_named (codes "date")) sent

-- the moment, where no date is sent
abbrev pub date_line : List Pair → ℕ → List ℕ
date_line sent now = if has_date sent then [] else field_line (codes "date", moment_text now)

-- the line is closed after the response
abbrev pub close_line : Bool → List ℕ
close_line closes = if closes then field_line close_field else []

-- the body, where the request was no HEAD and the status allows one
abbrev pub sent_body : ℕ → Bool → List ℕ → List ℕ
sent_body status head_request body = if is_without_body head_request status then [] else body

-- A response with this status, these fields and this body, at the moment `now`: the status line, the fields that go out in
-- order, `content-length`, `date` where no date goes out among the fields, `connection: close` where the line is closed, the
-- empty line and the body.
abbrev pub local_reply_of : ℕ → List Pair → List ℕ → Bool → Bool → ℕ → List ℕ
local_reply_of status fields body head_request closes now =
    status_line status ++ field_lines (sent_fields fields)
    ++ length_line status body ++ date_line (sent_fields fields) now ++ close_line closes ++ crlf_bytes
    ++ sent_body status head_request body
