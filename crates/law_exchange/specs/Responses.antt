-- What goes down in the life of an exchange without filters.
use Rattle.std.specs.Prelude.{◌≡◌, ℕ, ◌==◌, Bool, true, false, not, List, [], ◌∷◌, ◌++◌, Ok, if◌then◌else◌}
use Rattle.std.specs.List.{flat_map}
use Rattle.filter_chain.specs.declared.item.ChainItem.{ChainItem}
use Rattle.filter_chain.specs.declared.item.ChainItem.TheVariants.{Head, Piece, Trailers}
use Rattle.gate_io.specs.declared.event.Sent.{Sent}
use Rattle.gate_io.specs.declared.event.Sent.TheVariants as to
use Rattle.gate_io.specs.declared.event.Side.{Side}
use Rattle.gate_io.specs.declared.event.Side.TheVariants.{Down, Up}
use Rattle.h1_model.specs.Fields.{Pair}
use Rattle.h1_model.specs.Framing.{Framing, no_body, by_length, OutItem, head_wire, items_wire}
use Rattle.h1_model.specs.Framing as out
use Rattle.h1_model.specs.LocalReply.{local_reply_of}
use Rattle.exchange.specs.declared.types.Exchange.{Exchange}
use Rattle.exchange.specs.declared.types.Hub.{Hub}
use Rattle.exchange.specs.declared.types.Response.{Response}
use Rattle.exchange.specs.Heads.{is_204, is_bare, is_by_close, is_final, lacks_body, sent_head, down_tail, status_in}
use Rattle.exchange.specs.Leaving.{written_framing}
use Rattle.h1_write.specs.Heads.{frames_body}
use Rattle.header_maps.specs.Headers.{Headers}
use Rattle.h1_model.specs.Length.{Measure, response_measure}
use Rattle.law_exchange.specs.Framings.{IsReceived, is_chunks}
use Rattle.law_exchange.specs.Lives.{Deed, comes, responds, acts, resumes, closes, answers, dies, refuses, expires, turns, done_by}

-- ---- the bytes for the client of a line

abbrev pub side_bytes : ℕ → ℕ → Side → List ℕ → List ℕ
side_bytes n m Down bytes = if n == m then bytes else []
side_bytes n m Up bytes = []

abbrev pub down_of : ℕ → Sent → List ℕ
down_of n (to.Connect m) = []
down_of n (to.Bytes m side bytes) = side_bytes n m side bytes
down_of n (to.Close m side) = []
down_of n (to.Log level text) = []

abbrev pub down_bytes : ℕ → List Sent → List ℕ
down_bytes n sent = flat_map (down_of n) sent

-- ---- what is read of a response: a front of one message

abbrev pub IsBody : List ChainItem → Type 0
IsBody [] = Unit {0}
IsBody (Head end ∷ items) = ⊥
IsBody (Piece bytes false ∷ items) = IsBody items
IsBody (Piece bytes true ∷ items) = items ≡ []
IsBody (Trailers ∷ items) = items ≡ []

abbrev pub IsMessage : List ChainItem → Type 0
IsMessage [] = Unit {0}
IsMessage (Head false ∷ items) = IsBody items
IsMessage (Head true ∷ items) = items ≡ []
IsMessage (Piece bytes end ∷ items) = ⊥
IsMessage (Trailers ∷ items) = ⊥

abbrev pub response_in : Deed → List ChainItem
response_in (comes items) = []
response_in (responds items) = items
response_in (acts response k value) = []
response_in (resumes vm context response) = []
response_in closes = []
response_in (answers shuts status fields body) = []
response_in (dies vm) = []
response_in (refuses status) = []
response_in expires = []
response_in (turns y hub) = []

abbrev pub responses_in : List Deed → List ChainItem
responses_in deeds = flat_map response_in deeds

-- ---- what else becomes of it

-- It still has no filters, and was neither answered nor had a head sent down by that. What its client awaits is as before: whether it sent HEAD, and
-- whether it speaks HTTP/1.0. Of a response that is on its way, what its body is written by and whether the line stays open are as before; and once
-- it has ended that stays so. Where it ends by that, its line does not stay.
pub record IsKinDown (x y : Exchange) : Type 0 where
  pub request : y.request ≡ []
  pub response : y.response ≡ []
  pub head : y.is_head_out ≡ x.is_head_out
  pub answered : y.is_answered ≡ x.is_answered
  pub method : y.asked.is_head ≡ x.asked.is_head
  pub version : y.asked.old_client ≡ x.asked.old_client
  pub framed : x.is_head_out ≡ true → written_framing y ≡ written_framing x
  pub stays : x.is_head_out ≡ true → y.has_ended ≡ false → y.stays ≡ x.stays
  pub ended : x.has_ended ≡ true → (y.has_ended ≡ true) × (y.stays ≡ x.stays)
  pub ends : x.has_ended ≡ false → y.has_ended ≡ true → y.stays ≡ false

-- What is kept of the head of a response is what was judged of its Transfer-Encoding and Content-Length lines, and it has an end flag exactly
-- where that has no bytes.
pub record WasJudged (end : Bool) (r : Response) : Type 0 where
  pub minor : ℕ
  pub codings : List (List ℕ)
  pub lengths : List (List ℕ)
  pub measure : Measure
  pub to_head : Bool
  pub status : ℕ
  pub judged : response_measure minor codings lengths ≡ Ok measure
  pub received : IsReceived to_head status measure r
  pub ends : end ≡ is_bare r.length

-- the head of a response that is read is one that was judged, where the exchange runs and was not answered
abbrev pub IsHeard : List ChainItem → Exchange → Type 0
IsHeard [] x = Unit {0}
IsHeard (Head end ∷ items) x = x.has_ended ≡ false → x.is_answered ≡ false → WasJudged end x.told
IsHeard (Piece bytes end ∷ items) x = Unit {0}
IsHeard (Trailers ∷ items) x = Unit {0}

-- What else becomes of it sends no byte down. So a life in which an interim head is handed on is none of these lives: its bytes go down by no deed.
abbrev pub IsFairDown : ℕ → Deed → Exchange → Hub → Type 0
IsFairDown n (comes items) x hub = Unit {0}
IsFairDown n (responds items) x hub = IsHeard items x
IsFairDown n (acts response k value) x hub = Unit {0}
IsFairDown n (resumes vm context response) x hub = Unit {0}
IsFairDown n closes x hub = Unit {0}
IsFairDown n (answers shuts status fields body) x hub = Unit {0}
IsFairDown n (dies vm) x hub = Unit {0}
IsFairDown n (refuses status) x hub = Unit {0}
IsFairDown n expires x hub = Unit {0}
IsFairDown n (turns y after) x hub = IsKinDown x y × (down_bytes n after.sent ≡ down_bytes n hub.sent)

abbrev pub LivesDown : ℕ → Exchange → Hub → List Deed → Exchange → Hub → Type 0
LivesDown n x hub [] y after = (y ≡ x) × (after ≡ hub)
LivesDown n x hub (deed ∷ deeds) y after = IsFairDown n deed x hub × LivesDown n (done_by n deed x hub).0 (done_by n deed x hub).1 deeds y after

-- ---- one response

-- The bytes of an answer that passes no filter, to a HEAD request or another, after which the line stays open or not: the answer tells which,
-- and it has a status of a final response.
pub record IsReply (to_head stays : Bool) (wire : List ℕ) : Type 0 where
  pub status : ℕ
  pub fields : List Pair
  pub body : List ℕ
  pub now : ℕ
  pub final : is_final status ≡ true
  pub is : wire ≡ local_reply_of status fields body to_head (not stays) now

-- a front of a body, or one whose last item is there
abbrev pub IsOutBody : List OutItem → (whole : Bool) → Type 0
IsOutBody [] whole = whole ≡ false
IsOutBody (out.head h ∷ items) whole = ⊥
IsOutBody (out.interim h ∷ items) whole = ⊥
IsOutBody (out.piece bytes false ∷ items) whole = IsOutBody items whole
IsOutBody (out.piece bytes true ∷ items) whole = (items ≡ []) × (whole ≡ true)
IsOutBody (out.trailers fields ∷ items) whole = (items ≡ []) × (whole ≡ true)

abbrev pub IsOutRest : (bare : Bool) → List OutItem → (whole : Bool) → Type 0
IsOutRest true items whole = (items ≡ []) × (whole ≡ true)
IsOutRest false items whole = IsOutBody items whole

-- The bytes of one response, to a client that sent HEAD or another method and speaks HTTP/1.0 or not: a head, and the items of a body after it.
-- Whole means that its last item is there, or that its head is all of it; that the pieces of a body with a length have that many bytes is none of
-- this.
pub record IsResponse (to_head old_client stays : Bool) (wire : List ℕ) (whole : Bool) : Type 0 where
  pub framing : Framing
  pub written : Framing
  -- what it is the head of, and the moment; it tells `connection: close` unless the line is to stay open
  pub fields : Headers
  pub now : ℕ
  pub keeps : Bool
  pub bare : Bool
  pub items : List OutItem
  pub is : wire ≡ head_wire framing (sent_head fields (down_tail keeps now fields)) ++ items_wire written items
  pub rest : IsOutRest bare items whole
  -- where the client awaits a body, the head tells the end of one, or the line does, and it is written so; an end flag tells an empty one
  pub tells : lacks_body to_head (status_in fields) ≡ false → frames_body framing ≡ true
  pub follows : lacks_body to_head (status_in fields) ≡ false → written ≡ framing
  pub empty : lacks_body to_head (status_in fields) ≡ false → bare ≡ true → framing ≡ by_length 0
  -- where it awaits none, none is written and no chunks are told; of 204 nothing of a body is told
  pub none : lacks_body to_head (status_in fields) ≡ true → written ≡ no_body
  pub unchunked : lacks_body to_head (status_in fields) ≡ true → is_chunks framing ≡ false
  pub no_content : is_204 (status_in fields) ≡ true → framing ≡ no_body
  -- a client of HTTP/1.0 is sent no chunks, and after a body that ends with the line the line does not stay
  pub no_chunks : old_client ≡ true → is_chunks framing ≡ false
  pub unending : is_by_close framing ≡ true → keeps ≡ false
  -- after a whole one the line does as its head tells; it is closed after another
  pub as_told : whole ≡ true → stays ≡ keeps
  pub part : whole ≡ false → stays ≡ false

-- nothing went down; or the bytes of one answer; or of one response
pub data IsOneResponse (to_head old_client stays : Bool) (wire : List ℕ) : Type 0 where
  sends_nothing : wire ≡ [] → stays ≡ false → IsOneResponse to_head old_client stays wire
  sends_reply : IsReply to_head stays wire → IsOneResponse to_head old_client stays wire
  sends_response : (whole : Bool) → IsResponse to_head old_client stays wire whole → IsOneResponse to_head old_client stays wire

pub record IsNew (x : Exchange) : Type 0 where
  pub request : x.request ≡ []
  pub response : x.response ≡ []
  pub head : x.is_head_out ≡ false
  pub running : x.has_ended ≡ false
  pub unanswered : x.is_answered ≡ false

-- the line stays open, where it has ended
abbrev pub stays_behind : Exchange → Bool
stays_behind y = if y.has_ended then y.stays else false

pub record GoesDownOnce (n : ℕ) (x : Exchange) (hub : Hub) (y : Exchange) (after : Hub) : Type 0 where
  pub went : List ℕ
  pub adds : down_bytes n after.sent ≡ down_bytes n hub.sent ++ went
  pub one : IsOneResponse x.asked.is_head x.asked.old_client (stays_behind y) went

-- NO CLIENT SEES TWO RESPONSES: whatever happens to a new exchange but that an interim head is handed on, and what is read of its response is a front
-- of one message whose head was judged, what goes down on its line is nothing, one answer, or one response, framed as its client awaits it; and the
-- line stays open only after an answer that tells so or after a response that does and whose last item went down.
abbrev pub OneResponseGoesDown : Type 0
OneResponseGoesDown =
    (n : ℕ) (x y : Exchange) (hub after : Hub) (deeds : List Deed) → IsNew x → LivesDown n x hub deeds y after → IsMessage (responses_in deeds)
    → GoesDownOnce n x hub y after
