-- What the definitions of what goes down refuse.
use Rattle.std.specs.Prelude.{◌≡◌, ℕ, Bool, true, false, List, [], ◌∷◌, ◌++◌, None}
use Rattle.exchange.specs.Heads.{request_of}
use Rattle.law_exchange.specs.Responses.{IsResponse}
use Rattle.law_exchange.specs.Traffic.{Traffic, closes}
use Rattle.gate_io.specs.declared.event.Sent.TheVariants as to
use Rattle.gate_io.specs.declared.event.Side.TheVariants.{Down, Up}
use Rattle.gate_io.specs.declared.event.What.TheVariants as whats
use Rattle.header_maps.specs.Headers.{Headers}
use Rattle.worker_model.specs.Plan.{Plan}
use Rattle.law_down.specs.Downward.{Begun, Part, IsPart, IsResponseTo, Connection, traffic_of}
use Rattle.law_down.specs.InOrder.{shut, stands, lost, state_after, On, state_at_event}

-- After the close of a connection comes nothing of it. A line stays behind no response whose last item did not come. No interim head goes to a client of
-- HTTP/1.0. An answer of no exchange lets no line stay.
pub record Refuses : Type 0 where
  pub last : (c : Connection) (s t : List Traffic) → traffic_of c ≡ s ++ closes ∷ t → t ≡ []
  pub unfinished : (to_head old_client : Bool) (wire : List ℕ) → IsResponse to_head old_client true wire false → ⊥
  pub old : (plan : Plan) (b : Begun) (p : Part) (fields : Headers) (more : List Headers) → (request_of b.head).old_client ≡ true → p.interims ≡ fields ∷ more → IsResponseTo plan b p → ⊥
  pub lone : (plan : Plan) (p : Part) → p.from ≡ None → p.stays ≡ true → IsPart plan p → ⊥

-- A client connects; its request goes up over one connection, and its response comes down; that connection is closed, and then the client's. Its client may be
-- gone before. What is of other lines is not looked at. And this is out of order: a second close after the close, or a byte; a close of the client's
-- connection before that of the server's; bytes up where no connection is open, and a second connection; a piece of no bytes; a byte for a client that is gone.
pub record OrderExamples : Type 0 where
  pub connected : state_at_event 7 (whats.Opened 7) shut ≡ stands false
  pub whole : On 7 (stands false) (to.Connect 7 ∷ to.Bytes 7 Up (71 ∷ 69 ∷ []) ∷ to.Bytes 7 Down (72 ∷ []) ∷ to.Close 7 Up ∷ to.Close 7 Down ∷ []) shut
  pub gone : state_at_event 7 (whats.Gone 7 Down) (stands true) ≡ lost
  pub closed_up : On 7 lost (to.Close 7 Up ∷ []) shut
  pub others : On 7 (stands true) (to.Close 8 Down ∷ to.Connect 9 ∷ []) (stands true)
  pub twice : state_after 7 (to.Close 7 Down ∷ to.Close 7 Down ∷ []) (stands false) ≡ None
  pub behind_close : state_after 7 (to.Close 7 Down ∷ to.Bytes 7 Down (72 ∷ []) ∷ []) (stands false) ≡ None
  pub early : state_after 7 (to.Close 7 Down ∷ []) (stands true) ≡ None
  pub unconnected : state_after 7 (to.Bytes 7 Up (71 ∷ []) ∷ []) (stands false) ≡ None
  pub again : state_after 7 (to.Connect 7 ∷ []) (stands true) ≡ None
  pub empty : state_after 7 (to.Bytes 7 Down [] ∷ []) (stands true) ≡ None
  pub to_nobody : state_after 7 (to.Bytes 7 Down (72 ∷ []) ∷ []) lost ≡ None
