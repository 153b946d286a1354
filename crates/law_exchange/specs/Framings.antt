-- How messages are framed on their way out, against how they were received and how they are read there.
use Rattle.std.specs.Prelude.{◌≡◌, ℕ, Bool, true, false, List, Some, Ok}
use Rattle.exchange.specs.declared.types.Exchange.{Exchange}
use Rattle.exchange.specs.declared.types.Request.{Request}
use Rattle.exchange.specs.declared.types.Response.{Response}
use Rattle.exchange.specs.Heads.{is_204, is_bare, is_by_close, length_in, up_framing, down_framing, body_framing, answer_of}
use Rattle.exchange.specs.Leaving.{stays_behind}
use Rattle.h1_model.specs.Framing.{Framing, no_body, by_length, by_chunks, by_close}
use Rattle.h1_model.specs.Length.{Measure, request_measure, response_measure, is_without_body, without_body}
use Rattle.h1_write.specs.Heads.{frames_body, measure_said}
use Rattle.h1_write.specs.Requests.{request_said}

-- A REQUEST KEEPS ITS LENGTH: framed as it goes up, it tells the measure that was judged of its Transfer-Encoding and Content-Length lines. A
-- body that a filter may change has chunks instead.
pub record RequestsKeepTheirLength : Type 0 where
  pub kept : (minor : ℕ) (codings lengths : List (List ℕ)) (measure : Measure) (q : Request) → request_measure minor codings lengths ≡ Ok measure
      → q.length ≡ length_in measure.length → q.told ≡ measure.told → request_said (up_framing false q) ≡ measure
  pub filtered : (q : Request) → is_bare q.length ≡ false → up_framing true q ≡ by_chunks
  pub bare : (q : Request) → is_bare q.length ≡ true → up_framing true q ≡ up_framing false q

abbrev pub is_chunks : Framing → Bool
is_chunks no_body = false
is_chunks (by_length n) = false
is_chunks by_chunks = true
is_chunks by_close = false

-- The client's line stays in step, where it sent this request and this status goes out: where it awaits a body, the head that it is sent tells
-- the end of one, or the line does; it is written so; and a client of HTTP/1.0 is sent no chunks. Where it awaits none, none is written, and no
-- chunks are told. Of 204 nothing of a body is told (RFC 9110, section 8.6; RFC 9112, section 6.1).
pub record IsInStep (q : Request) (out : ℕ) (framing : Framing) : Type 0 where
  pub tells : is_without_body q.is_head out ≡ false → frames_body framing ≡ true
  pub written : is_without_body q.is_head out ≡ false → body_framing q (Some out) framing ≡ framing
  pub no_chunks : q.old_client ≡ true → is_chunks framing ≡ false
  pub none : is_without_body q.is_head out ≡ true → body_framing q (Some out) framing ≡ no_body
  pub unchunked : is_without_body q.is_head out ≡ true → is_chunks framing ≡ false
  pub no_content : is_204 (Some out) ≡ true → framing ≡ no_body

-- a response that was read, of this status, in answer to a request that was sent up as HEAD or as another
pub record IsReceived (to_head : Bool) (status : ℕ) (measure : Measure) (r : Response) : Type 0 where
  pub method : r.to_head ≡ to_head
  pub code : r.status ≡ Some status
  pub length : r.length ≡ length_in (without_body (is_without_body to_head status) measure).length
  pub told : r.told ≡ (without_body (is_without_body to_head status) measure).told

-- RESPONSES STAY IN STEP, whatever method filters sent up and whatever status they send down: those of servers, and those of the gateway and of
-- filters. One that nobody filters, which may have a body here and there, keeps its length for a client of HTTP/1.1. After a body that goes on
-- until the line ends, the line does not stay open.
pub record ResponsesStayInStep : Type 0 where
  pub received : (minor : ℕ) (codings lengths : List (List ℕ)) (measure : Measure) (to_head : Bool) (status : ℕ) (r : Response) (filtered : Bool) (q : Request) (out : ℕ)
      → response_measure minor codings lengths ≡ Ok measure → IsReceived to_head status measure r → IsInStep q out (down_framing filtered q r (Some out))
  pub answered : (answered_to q : Request) (status : ℕ) (body : List ℕ) (filtered : Bool) (out : ℕ)
      → IsInStep q out (down_framing filtered q (answer_of answered_to status body) (Some out))
  pub kept : (minor : ℕ) (codings lengths : List (List ℕ)) (measure : Measure) (to_head : Bool) (status : ℕ) (r : Response) (q : Request) (out : ℕ)
      → response_measure minor codings lengths ≡ Ok measure → IsReceived to_head status measure r → q.old_client ≡ false
      → is_without_body to_head status ≡ false → is_without_body q.is_head out ≡ false → measure_said (down_framing false q r (Some out)) ≡ measure
  pub unending : (x : Exchange) (framing : Framing) → is_by_close framing ≡ true → stays_behind x framing ≡ false
