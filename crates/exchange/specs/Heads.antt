-- Heads on their way out, how messages are framed, the route of a request, and the rule of persistence.
use Rattle.std.specs.Prelude.{ℕ, Bool, true, false, ◌&&◌, ◌||◌, not, List, [], ◌∷◌, ◌++◌, filter, length, ◌==◌, bytes_eq, codes, Option, None, Some, nat_lt, nat_le, if◌then◌else◌}
use Rattle.std.specs.List.{list_all, before_first}
use Rattle.gate_config.specs.declared.entries.RouteEntry.{RouteEntry}
use Rattle.gate_config.specs.Routes.{route_of}
use Rattle.header_maps.specs.declared.kind.ListKind.TheVariants.{Plain}
use Rattle.header_maps.specs.Headers.{Headers}
use Rattle.header_maps.specs.Judged.{status_of}
use Rattle.h1_model.specs.Fields.{Pair, is_named}
use Rattle.h1_model.specs.Framing.{Framing, no_body, by_length, by_chunks, by_close, told_framing, framing_of}
use Rattle.h1_model.specs.Head.{Head}
use Rattle.h1_model.specs.Length as model
use Rattle.h1_model.specs.LocalReply.{has_date}
use Rattle.h1_model.specs.Moment.{moment_text}
use Rattle.h1_model.specs.Wire.{sent_fields, pseudo_of, via_of, close_field}
use Rattle.h1_head.specs.declared.head.Length.{Length}
use Rattle.h1_head.specs.declared.head.Length.TheVariants as lengths
use Rattle.exchange.specs.declared.types.Request.{Request}
use Rattle.exchange.specs.declared.types.Response.{Response}

-- ---- the length of a body, as the code's values say it

abbrev pub length_in : model.BodyLength → Length
length_in model.nothing = lengths.Nothing
length_in (model.exactly n) = lengths.Exactly n
length_in model.chunked = lengths.Chunked
length_in model.until_end = lengths.UntilEnd

abbrev pub length_of : Length → model.BodyLength
length_of lengths.Nothing = model.nothing
length_of (lengths.Exactly n) = model.exactly n
length_of lengths.Chunked = model.chunked
length_of lengths.UntilEnd = model.until_end

-- a body of this length has no bytes
abbrev pub is_bare : Length → Bool
is_bare lengths.Nothing = true
is_bare (lengths.Exactly n) = false
is_bare lengths.Chunked = false
is_bare lengths.UntilEnd = false

-- ---- what is kept of heads

abbrev pub is_head : Headers → Bool
is_head fields = bytes_eq (pseudo_of fields (codes ":method")) (codes "HEAD")

abbrev pub request_of : Head → Request
request_of h = record {
  old_client = h.minor == 0;
  close = h.close;
  is_head = is_head h.fields;
  minor = h.minor;
  length = length_in h.length;
  told = h.told;
  whole = is_bare (length_in h.length);
}

-- the status that a list of pseudo-headers says
abbrev pub status_in : Headers → Option ℕ
status_in fields = status_of (pseudo_of fields (codes ":status"))

abbrev pub response_of : (to_head : Bool) → Head → Response
response_of to_head h = record { to_head = to_head; status = status_in h.fields; length = length_in h.length; told = h.told }

-- ---- the route

-- the target's path, without its query
abbrev pub path_of : Headers → List ℕ
path_of fields = before_first (λ b. b == 63) (pseudo_of fields (codes ":path"))

-- the place of the route that takes the path; routes are of ASCII, as each path is that was read
abbrev pub route_in : List RouteEntry → List ℕ → Option ℕ
route_in routes path = if list_all (λ b. nat_lt b 128) path then route_of routes path else None

-- ---- heads on their way out

abbrev pub tail_of : List Pair → Headers
tail_of fields = record { kind = Plain; pairs = fields }

-- a head as it goes out, with these fields after the one that frames it; nothing else of it is written
abbrev pub sent_head : Headers → List Pair → Head
sent_head fields tail = record {
  fields = fields;
  tail = tail_of tail;
  form = None;
  minor = 1;
  length = model.nothing;
  told = None;
  close = false;
  connection = [];
}

-- `via` with the version that was received, and `connection: close`, since each exchange has a connection of its own
-- (RFC 9110, section 7.6.3; RFC 9112, section 9.6)
abbrev pub up_tail : ℕ → List Pair
up_tail minor = via_of minor ∷ close_field ∷ []

-- the moment, where no date goes out among the fields (RFC 9110, section 6.6.1)
abbrev pub date_fields : List Pair → ℕ → List Pair
date_fields sent now = if has_date sent then [] else (codes "date", moment_text now) ∷ []

abbrev pub close_fields : Bool → List Pair
close_fields stays = if stays then [] else close_field ∷ []

abbrev pub down_tail : Bool → ℕ → Headers → List Pair
down_tail stays now fields = date_fields (sent_fields fields.pairs) now ++ close_fields stays

-- ---- trailers on their way out (RFC 9110, section 7.6.1)

-- the Connection fields of a head as it goes out, where filters put some: they list names, of which no trailer goes out
abbrev pub connection_fields : Headers → List Pair
connection_fields head = filter (is_named (codes "connection")) head.pairs

-- The fields of trailers with those of the head after them, so that what these list is left out as what the trailers' own list is. The
-- Connection fields themselves never go out.
abbrev pub with_connection : List Pair → List Pair → List Pair
with_connection connection trailers = trailers ++ connection

-- ---- how messages are framed

-- A request on its way up. `filtered`: a filter of the route exports the callback for bodies of requests.
abbrev pub up_framing : (filtered : Bool) → Request → Framing
up_framing filtered q = framing_of (is_bare q.length) filtered false None q.told (length_of q.length)

-- the method that the server's response answers, of which it matters alone whether it is HEAD: that which was sent up
abbrev pub asked_by : Headers → List ℕ
asked_by fields = if is_head fields then codes "HEAD" else codes "GET"

-- a response of this status, if it has one, is without a body (RFC 9112, section 6.3)
abbrev pub lacks_body : (to_head : Bool) → Option ℕ → Bool
lacks_body to_head None = to_head
lacks_body to_head (Some status) = model.is_without_body to_head status

abbrev pub is_204 : Option ℕ → Bool
is_204 None = false
is_204 (Some status) = status == 204

-- A RESPONSE ON ITS WAY DOWN is framed by the method that the client sent and the status that goes out, so that no filter puts the
-- client's line out of step. Where those allow no body, its head may still tell a length: that which was told. Where they do, but the
-- response that was received had none whatever its length says, its body is empty. Else the framing is that of the response as it was
-- received, but a body that a filter may change has chunks.
abbrev pub down_framing : (filtered : Bool) → Request → Response → (out : Option ℕ) → Framing
down_framing filtered q r out =
    if lacks_body q.is_head out
    then (if (is_bare r.length || not filtered) && not (is_204 r.status || is_204 out) then told_framing r.told else no_body)
    else if lacks_body r.to_head r.status then by_length 0
    else framing_of (is_bare r.length) filtered q.old_client r.status r.told (length_of r.length)

-- THE BYTES OF ITS BODY, and its trailers, are written by the framing that its head tells; but where that method and that status allow no
-- body, nothing of one is written, whatever comes from the server.
abbrev pub body_framing : Request → (out : Option ℕ) → Framing → Framing
body_framing q out framing = if lacks_body q.is_head out then no_body else framing

-- ---- persistence (RFC 9112, section 9.3)

abbrev pub is_by_close : Framing → Bool
is_by_close no_body = false
is_by_close (by_length n) = false
is_by_close by_chunks = false
is_by_close by_close = true

-- the line may stay open after a request of HTTP/1.1 without `close` whose end has been read
abbrev pub may_stay : Request → Bool
may_stay q = (not q.old_client && not q.close) && q.whole

-- ---- answers of the gateway and of filters

-- a status that a final response has
abbrev pub is_final : ℕ → Bool
is_final status = nat_le 200 status && nat_le status 599

-- the refusals after which the line is closed, whatever the rule of persistence says: 400, 413, 431, 501
abbrev pub closes_line : ℕ → Bool
closes_line status = (status == 400 || status == 413) || (status == 431 || status == 501)

-- the fixed answers that pass the response stages of the filters that were reached: 413, 502, 504
abbrev pub passes_filters : ℕ → Bool
passes_filters status = status == 413 || (status == 502 || status == 504)

-- what is kept of an answer with this body
abbrev pub sent_length : Bool → List ℕ → Length
sent_length lacks [] = lengths.Nothing
sent_length true (b ∷ body) = lengths.Nothing
sent_length false (b ∷ body) = lengths.Exactly (length (b ∷ body))

abbrev pub answer_of : Request → ℕ → List ℕ → Response
answer_of q status body = record {
  to_head = q.is_head;
  status = Some status;
  length = sent_length (model.is_without_body q.is_head status) body;
  told = if model.is_without_body false status then None else Some (length body);
}
