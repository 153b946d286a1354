-- Worked examples: a request that is too large, one that is answered past its filter, responses of which no body goes down, and trailers that the
-- head's Connection lists.
use Rattle.std.specs.Prelude.{◌≡◌, ◌<◌, ℕ, Bool, true, false, List, [], ◌∷◌, ◌++◌, length, None, Some, codes}
use Rattle.contexts.specs.declared.parts.Contexts.{Contexts}
use Rattle.contexts.specs.Creating.{open_exchange, root_created, stream_created}
use Rattle.contexts.specs.Making.{no_contexts, with_vm, with_plugin}
use Rattle.contexts.specs.Stages.{held_at, with_buffered, with_callback_answered}
use Rattle.filter_chain.specs.declared.stage.Stage.{Stage}
use Rattle.filter_chain.specs.declared.item.Asking.{Asking}
use Rattle.filter_chain.specs.declared.item.Held.{Held}
use Rattle.filter_chain.specs.declared.item.Held.TheVariants as held
use Rattle.filter_chain.specs.declared.item.ChainItem.TheVariants.{Head, Piece, Trailers}
use Rattle.filter_chain.specs.Chains.{asked}
use Rattle.gate_base.specs.declared.level.Level.TheVariants as levels
use Rattle.gate_io.specs.declared.event.Sent.TheVariants.{Bytes, Connect}
use Rattle.gate_io.specs.declared.event.Side.TheVariants.{Down, Up}
use Rattle.h1_head.specs.declared.head.Length.TheVariants as lengths
use Rattle.header_maps.specs.Headers.{Headers}
use Rattle.header_maps.specs.Operations.{no_headers, request_headers, response_headers, added}
use Rattle.httparse.specs.Ascii.{crlf_bytes}
use Rattle.exchange.specs.declared.types.Exchange.{Exchange}
use Rattle.exchange.specs.declared.types.Hub.{Hub}
use Rattle.exchange.specs.declared.types.Request.{Request}
use Rattle.exchange.specs.declared.types.Response.{Response}
use Rattle.exchange.specs.Answering.{answer_directly, with_held}
use Rattle.exchange.specs.Maps.{put_request, put_response, put_request_trailers, put_response_trailers}
use Rattle.exchange.specs.Passing.{put_read_items, apply_action, close_exchange}

abbrev line : List ℕ → List ℕ
line text = text ++ crlf_bytes

-- the line of the first second
abbrev first_date : List ℕ
first_date = line (codes "date: Thu, 01 Jan 1970 00:00:00 GMT")

-- line 1 with an exchange, and one filter of it: its context is 2, of VM 0
abbrev pub host : Contexts
host =
    stream_created 0 1 1 (open_exchange 1 (request_headers (codes "POST") (codes "http") (codes "h") (codes "/"))
    (root_created 0 0 (with_plugin 0 (codes "p") [] (with_vm (codes "m") [] (no_contexts levels.Info [])))))

abbrev pub hub_of : Contexts → Hub
hub_of contexts = record { moment = 0; contexts = contexts; sent = [] }

abbrev pub stage : Bool → Held → Stage
stage response what = record { vm = 0; context = 2; response = response; waiting = []; held = what; passes = false }

abbrev pub no_response : Response
no_response = record { to_head = false; status = None; length = lengths.Nothing; told = None }

abbrev pub exchange : Request → Response → List Stage → List Stage → Exchange
exchange asked told request response = record {
  place = 0;
  filters = [];
  request = request;
  response = response;
  filters_requests = true;
  filters_responses = false;
  asked = asked;
  told = told;
  out = None;
  reader = None;
  due = None;
  refusal = None;
  is_head_up = false;
  connection_up = [];
  connection_down = [];
  is_read = false;
  is_entered = true;
  is_headed = false;
  is_answered = false;
  is_head_out = false;
  has_ended = false;
  stays = false;
  closes = false;
}

-- ---- a request in chunks, of which the filter holds the head, or two bytes of the body

abbrev pub upload : Request
upload = record { old_client = false; close = false; is_head = false; minor = 1; length = lengths.Chunked; told = None; whole = false }

abbrev pub uploading : Held → Exchange
uploading what = exchange upload no_response (stage false what ∷ []) (stage true held.Nothing ∷ [])

-- it holds the head
abbrev pub at_head : Exchange × Hub
at_head = (uploading (held.Head false), hub_of host)

-- its body callback has returned Pause
abbrev pub at_body : Exchange × Hub
at_body = (uploading (held.Body false), hub_of (with_callback_answered (with_buffered host 0 2 false (codes "ab") false) 0 2 false))

-- one batch comes: a piece, and then trailers
abbrev pub batch : List ℕ → Exchange × Hub → Exchange × Hub
batch bytes (x, hub) = put_read_items false (Piece bytes false ∷ Trailers ∷ []) 1 x hub

-- the filter is asked about the answer's head, and answers Continue
abbrev pub continues : Exchange → Hub → Asking × List Stage × Contexts → Exchange × Hub
continues x hub (asking, stages, contexts) = apply_action true 0 0 1 (record x { response = stages }) (with_held contexts hub)

abbrev pub let_down : Exchange × Hub → Exchange × Hub
let_down (x, hub) = continues x hub (asked hub.contexts x.response)

abbrev too_large : List ℕ
too_large = line (codes "HTTP/1.1 413 ") ++ line (codes "content-length: 0") ++ first_date ++ line (codes "connection: close") ++ line []

-- what the filter holds of the request's body
abbrev pub held_of : Exchange × Hub → List ℕ
held_of (x, hub) = held_at hub.contexts 0 2 false

pub record TooMuchExamples : Type 0 where
  -- Too much comes while the filter holds bytes of the body. Nothing goes up, neither the piece nor the trailers after it.
  pub nothing_up : (bytes : List ℕ) → 1048574 < length bytes → (batch bytes at_body).1.sent ≡ []
  pub no_stage : (bytes : List ℕ) → 1048574 < length bytes → (batch bytes at_body).0.request ≡ []
  pub nothing_held : (bytes : List ℕ) → 1048574 < length bytes → held_of (batch bytes at_body) ≡ []
  -- the answer goes down as soon as the filter lets it
  pub answer_down : (bytes : List ℕ) → 1048574 < length bytes → (let_down (batch bytes at_body)).1.sent ≡ Bytes 1 Down too_large ∷ []
  -- the same while it holds the head: no connection is opened
  pub no_connection : (bytes : List ℕ) → 1048576 < length bytes → (batch bytes at_head).1.sent ≡ []
  pub answer_to_head : (bytes : List ℕ) → 1048576 < length bytes → (let_down (batch bytes at_head)).1.sent ≡ Bytes 1 Down too_large ∷ []

-- ---- an answer past the filter, and a close, while it holds bytes

abbrev pub answered_past : Exchange × Hub → Exchange × Hub
answered_past (x, hub) = answer_directly 1 503 [] [] x hub

abbrev pub shut_down : Exchange × Hub → Exchange × Hub
shut_down (x, hub) = close_exchange 1 x hub

pub record NoStageExamples : Type 0 where
  pub held_before : held_of at_body ≡ codes "ab"
  pub answered_requests : (answered_past at_body).0.request ≡ []
  pub answered_responses : (answered_past at_body).0.response ≡ []
  pub answered_holds : held_of (answered_past at_body) ≡ []
  pub closed_requests : (shut_down at_body).0.request ≡ []
  pub closed_responses : (shut_down at_body).0.response ≡ []
  pub closed_holds : held_of (shut_down at_body) ≡ []

-- ---- responses: a body of three bytes comes from the server, which was asked by GET, and no filter is there for bodies

abbrev pub wanted : Bool → Request
wanted is_head = record { old_client = false; close = false; is_head = is_head; minor = 1; length = lengths.Nothing; told = None; whole = true }

abbrev pub three_bytes : Response
three_bytes = record { to_head = false; status = Some 200; length = lengths.Exactly 3; told = Some 3 }

-- a client that sent HEAD, or another, is sent the response of status 200, to which filters gave that status
abbrev pub responded : (is_head : Bool) → (status : ℕ) → Exchange × Hub
responded is_head status =
    put_read_items true (Head false ∷ Piece (codes "abc") true ∷ []) 1 (exchange (wanted is_head) three_bytes [] []) (hub_of (put_response (response_headers status) 0 host))

abbrev sized_head : List ℕ → List ℕ
sized_head start = line start ++ line (codes "content-length: 3") ++ first_date ++ line []

pub record NoBodyExamples : Type 0 where
  -- head and body
  pub to_get : (responded false 200).1.sent ≡ Bytes 1 Down (sized_head (codes "HTTP/1.1 200 ")) ∷ Bytes 1 Down (codes "abc") ∷ []
  -- to HEAD the head alone, which tells the length
  pub to_head : (responded true 200).1.sent ≡ Bytes 1 Down (sized_head (codes "HTTP/1.1 200 ")) ∷ []
  pub to_head_ends : (responded true 200).0.has_ended ≡ true
  pub to_head_stays : (responded true 200).0.stays ≡ true
  -- so where a filter made it 304
  pub not_modified : (responded false 304).1.sent ≡ Bytes 1 Down (sized_head (codes "HTTP/1.1 304 ")) ∷ []
  pub not_modified_ends : (responded false 304).0.has_ended ≡ true
  pub not_modified_stays : (responded false 304).0.stays ≡ true
  -- or 204, which tells no length
  pub no_content : (responded false 204).1.sent ≡ Bytes 1 Down (line (codes "HTTP/1.1 204 ") ++ first_date ++ line []) ∷ []

-- ---- trailers: there are two, of which a Connection field lists one that a filter put into the head

abbrev posted : Headers
posted = request_headers (codes "POST") (codes "http") (codes "h") (codes "/")

abbrev listing : Headers → Headers
listing head = added head (codes "connection") (codes "x-other, X-Sum")

abbrev two_trailers : Headers
two_trailers = added (added no_headers (codes "x-sum") (codes "1")) (codes "x-kept") (codes "2")

-- the heads of the exchange are these, and its trailers those two
abbrev with_heads : (request response : Headers) → Contexts → Contexts
with_heads request response contexts =
    put_response_trailers two_trailers 0 (put_request_trailers two_trailers 0 (put_response response 0 (put_request request 0 contexts)))

-- a filter changes the heads after that
abbrev pub plain_again : Exchange × Hub → Exchange × Hub
plain_again (x, hub) = (x, record hub { contexts = with_heads posted (response_headers 200) hub.contexts })

abbrev pub listing_again : Exchange × Hub → Exchange × Hub
listing_again (x, hub) = (x, record hub { contexts = with_heads (listing posted) (listing (response_headers 200)) hub.contexts })

abbrev chunked_response : Response
chunked_response = record { to_head = false; status = Some 200; length = lengths.Chunked; told = None }

-- the head of a request in chunks leaves, and that of a response in chunks
abbrev pub head_leaves : (response : Bool) → Exchange × Hub → Exchange × Hub
head_leaves response (x, hub) = put_read_items response (Head false ∷ []) 1 x hub

abbrev pub trailers_leave : (response : Bool) → Exchange × Hub → Exchange × Hub
trailers_leave response (x, hub) = put_read_items response (Trailers ∷ []) 1 x hub

abbrev pub uploads : Exchange × Hub
uploads = (exchange upload no_response [] [], hub_of host)

abbrev pub responds : Exchange × Hub
responds = (exchange (wanted false) chunked_response [] [], hub_of host)

abbrev chunked_up : List ℕ
chunked_up =
    line (codes "POST / HTTP/1.1") ++ line (codes "host: h") ++ line (codes "transfer-encoding: chunked") ++ line (codes "via: 1.1 wasmgate")
    ++ line (codes "connection: close") ++ line []

abbrev chunked_down : List ℕ
chunked_down = line (codes "HTTP/1.1 200 ") ++ line (codes "transfer-encoding: chunked") ++ first_date ++ line []

abbrev kept_alone : List ℕ
kept_alone = line (codes "0") ++ line (codes "x-kept: 2") ++ line []

abbrev both_kept : List ℕ
both_kept = line (codes "0") ++ line (codes "x-sum: 1") ++ line (codes "x-kept: 2") ++ line []

pub record TrailerExamples : Type 0 where
  -- the one that is listed goes neither up nor down
  pub up : (trailers_leave false (head_leaves false (listing_again uploads))).1.sent ≡ Connect 1 ∷ Bytes 1 Up chunked_up ∷ Bytes 1 Up kept_alone ∷ []
  pub down : (trailers_leave true (head_leaves true (listing_again responds))).1.sent ≡ Bytes 1 Down chunked_down ∷ Bytes 1 Down kept_alone ∷ []
  -- so where the field is taken out of the map after the head
  pub up_then : (trailers_leave false (plain_again (head_leaves false (listing_again uploads)))).1.sent ≡ Connect 1 ∷ Bytes 1 Up chunked_up ∷ Bytes 1 Up kept_alone ∷ []
  pub down_then : (trailers_leave true (plain_again (head_leaves true (listing_again responds)))).1.sent ≡ Bytes 1 Down chunked_down ∷ Bytes 1 Down kept_alone ∷ []
  -- where it is put there after the head, both go
  pub up_late : (trailers_leave false (listing_again (head_leaves false (plain_again uploads)))).1.sent ≡ Connect 1 ∷ Bytes 1 Up chunked_up ∷ Bytes 1 Up both_kept ∷ []
  pub down_late : (trailers_leave true (listing_again (head_leaves true (plain_again responds)))).1.sent ≡ Bytes 1 Down chunked_down ∷ Bytes 1 Down both_kept ∷ []
