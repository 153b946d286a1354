-- Worked: a filter that changes the path, the fields and the body of a request; and what is refused.
use Rattle.std.specs.Prelude.{◌≡◌, ℕ, true, false, List, [], ◌∷◌, ◌++◌, None, Some, codes}
use Rattle.exchange.specs.Heads.{sent_head, up_tail}
use Rattle.exchange.specs.declared.types.Exchange.{Exchange}
use Rattle.h1_write.specs.Lines.{OutRequest, out_wire, in_items}
use Rattle.h1_write.specs.Requests.{request_read}
use Rattle.h1_write.specs.Round.{last_bytes, body_items, IsReadAs}
use Rattle.header_maps.specs.Headers.{Headers}
use Rattle.header_maps.specs.Kept.{IsHeaders}
use Rattle.header_maps.specs.Operations.{request_headers}
use Rattle.header_maps.specs.declared.kind.ListKind.TheVariants as kinds
use Rattle.h1_model.specs.Examples.{worked_wire}
use Rattle.h1_model.specs.Framing.{by_length, by_chunks, head_wire, piece}
use Rattle.h1_model.specs.Head.{Head}
use Rattle.h1_model.specs.Messages.{Item, head, rest}
use Rattle.httparse.specs.Ascii.{crlf_bytes}
use Rattle.worker_model.specs.Plan.{Plan}
use Rattle.worker_model.specs.Steps.{exchange_for}
use Rattle.law_lines.specs.Examples.{worked_request}
use Rattle.law_lines.specs.Requests.{IsJudged, IsMadeOf}
use Rattle.law_read_back.specs.OneRequest.{requests_begun, IsNeverTwo, IsReadAsOne}
use Rattle.law_read_back.specs.Sent.{IsRequestList, IsTakenIn, Carries}

abbrev line : List ℕ → List ℕ
line text = text ++ crlf_bytes

-- ---- what comes: a POST with two bytes

abbrev pub asked_head : Head
asked_head = sent_head (request_headers (codes "POST") (codes "http") (codes "a") (codes "/")) []

abbrev pub asked_text : List ℕ
asked_text = line (codes "POST / HTTP/1.1") ++ line (codes "host: a") ++ line (codes "content-length: 2") ++ line []

-- the head that is read of it
abbrev pub posted : Head
posted = request_read (by_length 2) asked_head

-- ---- what filters make of it: another path, another field, and three bytes

abbrev pub made_fields : Headers
made_fields = record {
  kind = kinds.Request;
  pairs = (codes ":method", codes "POST") ∷ (codes ":scheme", codes "http") ∷ (codes ":authority", codes "a") ∷ (codes ":path", codes "/b?c=1") ∷ (codes "x-b", codes "2") ∷ [];
}

abbrev pub made_request : OutRequest
made_request = record { framing = by_chunks; head = sent_head made_fields (up_tail 1); pieces = []; ending = last_bytes (codes "XYZ") }

-- and with its body cut in two
abbrev pub cut_request : OutRequest
cut_request = record { framing = by_chunks; head = sent_head made_fields (up_tail 1); pieces = codes "XY" ∷ []; ending = last_bytes (codes "Z") }

abbrev pub made_head_wire : List ℕ
made_head_wire =
    line (codes "POST /b?c=1 HTTP/1.1") ++ line (codes "host: a") ++ line (codes "x-b: 2") ++ line (codes "transfer-encoding: chunked") ++ line (codes "via: 1.1 wasmgate")
    ++ line (codes "connection: close") ++ line []

abbrev pub made_wire : List ℕ
made_wire = made_head_wire ++ line (codes "3") ++ line (codes "XYZ") ++ line (codes "0") ++ line []

abbrev pub cut_text : List ℕ
cut_text = made_head_wire ++ line (codes "2") ++ line (codes "XY") ++ line (codes "1") ++ line (codes "Z") ++ line (codes "0") ++ line []

-- one route with one filter, which filters the bodies of requests
abbrev pub filter_plan : Plan
filter_plan = record {
  routes = record { path = codes "/"; filters = 0 ∷ [] } ∷ [];
  plugins = record { name = codes "p"; vm = 0; configuration = []; fail_open = false } ∷ [];
  vms = 1;
  deadline = 0;
  bodies = record { requests = true; responses = false } ∷ [];
  registers = false ∷ [];
  tcp = [];
}

abbrev pub first : Exchange
first = exchange_for filter_plan 0 0 [] posted (Some 0)

-- WHAT IS ASKED OF FILTERS IS MET by those: the head that came was judged, the request is one that an exchange with a filter makes of it, its fields make a
-- head that a reader takes in, and its body is such as chunks carry; so a reader takes its bytes as that one request. It is the request that goes up in the
-- worked turns (`Runs`). And so it is of the same with its body cut in two chunks.
pub record FilterExample : Type 0 where
  pub text : head_wire (by_length 2) asked_head ≡ asked_text
  pub judged : IsJudged posted
  pub filtered : first.filters_requests ≡ true
  pub made : IsMadeOf posted first made_request
  pub fields : made.fields ≡ made_fields
  pub taken : IsTakenIn made_fields made_request
  pub carries : Carries by_chunks (body_items made_request.pieces made_request.ending)
  pub wire : out_wire made_request ≡ made_wire
  pub read : IsReadAsOne made_request made_wire
  pub cut_made : IsMadeOf posted first cut_request
  pub cut_fields : cut_made.fields ≡ made_fields
  pub cut_taken : IsTakenIn made_fields cut_request
  pub cut_carries : Carries by_chunks (body_items cut_request.pieces cut_request.ending)
  pub cut_is : out_wire cut_request ≡ cut_text
  pub cut_read : IsReadAsOne cut_request cut_text

-- ---- a body of more bytes than are told: it holds a second request

abbrev pub short_post : OutRequest
short_post = record { framing = by_length 2; head = sent_head made_fields (up_tail 1); pieces = []; ending = last_bytes (codes "ab") }

abbrev pub overrun : OutRequest
overrun = record { framing = by_length 2; head = sent_head made_fields (up_tail 1); pieces = []; ending = last_bytes (codes "ab" ++ worked_wire) }

abbrev pub two_items : List Item
two_items = in_items short_post ++ (in_items worked_request ++ [])

-- a path that a list holds and `http_uri` reads as none
abbrev pub odd_fields : Headers
odd_fields = record {
  kind = kinds.Request;
  pairs = (codes ":method", codes "POST") ∷ (codes ":scheme", codes "http") ∷ (codes ":authority", codes "a") ∷ (codes ":path", codes "/a<b") ∷ [];
}

abbrev pub odd_request : OutRequest
odd_request = record { framing = by_chunks; head = sent_head odd_fields (up_tail 1); pieces = codes "XY" ∷ []; ending = last_bytes (codes "Z") }

-- WHAT IS REFUSED: two requests are read as no one, and are not "never read as two", whichever request one names; a value with an end of line and another field
-- after it is none of a list of headers; and three bytes are no body of two, whether or not they are its last, nor one byte where it is the last. What is asked
-- is no idle word: a body of more bytes than are told, which no framing carries, would be read as two requests. A path that is no target hides no second request.
pub record RefusedReadings : Type 0 where
  pub two : (q : OutRequest) → IsReadAsOne q (worked_wire ++ worked_wire) → ⊥
  pub two_never : (q : OutRequest) → IsNeverTwo q (worked_wire ++ worked_wire) → ⊥
  pub smuggled : IsHeaders (record made_fields { pairs = (codes ":method", codes "POST") ∷ (codes ":scheme", codes "http") ∷ (codes ":authority", codes "a") ∷ (codes ":path", codes "/") ∷ (codes "x-b", codes "2" ++ crlf_bytes ++ codes "content-length: 9") ∷ [] }) → ⊥
  pub longer : Carries (by_length 2) (piece (codes "abc") true ∷ []) → ⊥
  pub longer_front : Carries (by_length 2) (piece (codes "abc") false ∷ []) → ⊥
  pub shorter : Carries (by_length 2) (piece (codes "a") true ∷ []) → ⊥
  pub overrun_uncarried : Carries (by_length 2) (body_items overrun.pieces overrun.ending) → ⊥
  pub overrun_read : IsReadAs (out_wire overrun) false None head two_items rest
  pub overrun_two : requests_begun two_items ≡ 2
  pub odd_listed : IsRequestList odd_fields
  pub odd_never_two : IsNeverTwo odd_request (out_wire odd_request)
