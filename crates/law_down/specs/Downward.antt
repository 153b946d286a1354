-- What goes down on a line, exchange by exchange.
use Rattle.std.specs.List.{flat_map}
use Rattle.std.specs.Prelude.{◌≡◌, ℕ, Bool, true, false, List, [], ◌∷◌, ◌++◌, map, Option, None, Some, if◌then◌else◌}
use Rattle.exchange.specs.declared.types.Exchange.{Exchange}
use Rattle.exchange.specs.Heads.{request_of, sent_head}
use Rattle.law_exchange.specs.Responses.{IsReply, IsOneResponse, stays_behind}
use Rattle.law_exchange.specs.Traffic.{Traffic, byte, closes}
use Rattle.header_maps.specs.Headers.{Headers}
use Rattle.h1_model.specs.Framing.{no_body, head_wire}
use Rattle.h1_model.specs.Head.{Head, SpellsResponse, found}
use Rattle.h1_model.specs.Messages.{is_interim}
use Rattle.worker_model.specs.Plan.{Plan}
use Rattle.worker_model.specs.declared.types.Line.{Line}
use Rattle.law_lines.specs.Requests.{IsBegun, IsAskedAs}

-- ---- interim heads

-- the fields of a head that was read where a response was due, of status 1xx but for 101
pub record IsInterim (fields : Headers) : Type 0 where
  pub head : Head
  pub of : head.fields ≡ fields
  pub to_head : Bool
  pub text : List ℕ
  pub used : ℕ
  pub spells : SpellsResponse to_head text (found head used)
  pub interim : is_interim fields.kind ≡ true

abbrev pub AreInterim : List Headers → Type 0
AreInterim [] = Unit {0}
AreInterim (fields ∷ more) = IsInterim fields × AreInterim more

-- on their way down: neither framed, nor with fields after their own
abbrev pub interim_wire : Headers → List ℕ
interim_wire fields = head_wire no_body (sent_head fields [])

abbrev pub interims_wire : List Headers → List ℕ
interims_wire all = flat_map interim_wire all

-- ---- parts

-- an exchange as it began, with its head
pub record Begun : Type 0 where
  pub head : Head
  pub first : Exchange

-- A PART is what one exchange sent down: interim heads, and then these bytes; and whether its line stays after it. Or it is of no exchange: what came
-- was no request.
pub record Part : Type 0 where
  pub from : Option Begun
  pub interims : List Headers
  pub wire : List ℕ
  pub stays : Bool

-- ONE RESPONSE TO ONE REQUEST: nothing, one answer, or one head with items of one body as far as they went, framed as the client awaits it that sent this
-- head, and written so; the line stays after an answer or a head that tells so, whose last item is there. To HTTP/1.0 no interim head goes.
pub record IsResponseTo (plan : Plan) (b : Begun) (p : Part) : Type 0 where
  pub begun : IsBegun plan b.head b.first
  pub interim : AreInterim p.interims
  pub new_client : (request_of b.head).old_client ≡ true → p.interims ≡ []
  pub one : IsOneResponse (request_of b.head).is_head (request_of b.head).old_client p.stays p.wire

-- one answer, which tells `connection: close`, after which the line is closed
pub record IsRefusal (p : Part) : Type 0 where
  pub interims : p.interims ≡ []
  pub stays : p.stays ≡ false
  pub reply : IsReply false false p.wire

abbrev pub IsPartOf : Plan → Option Begun → Part → Type 0
IsPartOf plan None p = IsRefusal p
IsPartOf plan (Some b) p = IsResponseTo plan b p

abbrev pub IsPart : Plan → Part → Type 0
IsPart plan p = IsPartOf plan p.from p

abbrev pub wire_of : Part → List ℕ
wire_of p = interims_wire p.interims ++ p.wire

-- ---- connections of clients

-- parts after each of which the line stays
abbrev pub AreStaying : Plan → List Part → Type 0
AreStaying plan [] = Unit {0}
AreStaying plan (p ∷ parts) = IsPart plan p × (p.stays ≡ true) × AreStaying plan parts

abbrev pub IsLast : Plan → Option Part → Type 0
IsLast plan None = Unit {0}
IsLast plan (Some p) = IsPart plan p

abbrev pub last_wire : Option Part → List ℕ
last_wire None = []
last_wire (Some p) = wire_of p

-- A CONNECTION OF A CLIENT, from its begin to its end: parts one after the other, after each of which the line stays; one more at most; and then its
-- close, or none (that there is none where the client was gone alone is not said)
pub record Connection : Type 0 where
  pub staying : List Part
  pub last : Option Part
  pub closed : Bool

abbrev pub IsConnection : Plan → Connection → Type 0
IsConnection plan c = AreStaying plan c.staying × IsLast plan c.last

abbrev pub close_of : Bool → List Traffic
close_of closed = if closed then closes ∷ [] else []

abbrev pub traffic_of : Connection → List Traffic
traffic_of c = map byte (flat_map wire_of c.staying ++ last_wire c.last) ++ close_of c.closed

abbrev pub AreConnections : Plan → List Connection → Type 0
AreConnections plan [] = Unit {0}
AreConnections plan (c ∷ more) = IsConnection plan c × AreConnections plan more

-- ALL THAT WENT DOWN ON A LINE THAT IS CLOSED: its connections, one after the other
pub record Closed (plan : Plan) (total : List Traffic) : Type 0 where
  pub connections : List Connection
  pub are : AreConnections plan connections
  pub is : total ≡ flat_map traffic_of connections

-- OF ONE THAT IS OPEN, WITHOUT AN EXCHANGE: those before, and the parts of its connection as yet
pub record Standing (plan : Plan) (total : List Traffic) : Type 0 where
  pub before : List Traffic
  pub closed : Closed plan before
  pub staying : List Part
  pub stay : AreStaying plan staying
  pub last : Option Part
  pub lasts : IsLast plan last
  pub is : total ≡ before ++ map byte (flat_map wire_of staying ++ last_wire last)

-- OF ONE WITH AN EXCHANGE: after the parts before, after each of which its line stayed, what the exchange sent as yet. It is one that began with this head.
pub record Answering (plan : Plan) (x : Exchange) (total : List Traffic) : Type 0 where
  pub before : List Traffic
  pub closed : Closed plan before
  pub staying : List Part
  pub stay : AreStaying plan staying
  pub head : Head
  pub first : Exchange
  pub asked : IsAskedAs x first
  pub interims : List Headers
  pub wire : List ℕ
  pub part : IsResponseTo plan (record { head = head; first = first }) (record { from = Some (record { head = head; first = first }); interims = interims; wire = wire; stays = stays_behind x })
  pub is : total ≡ before ++ map byte (flat_map wire_of staying ++ (interims_wire interims ++ wire))

abbrev pub GoesDownWith : Plan → Option Exchange → List Traffic → Type 0
GoesDownWith plan None total = Standing plan total
GoesDownWith plan (Some x) total = Answering plan x total

-- WHAT WENT DOWN ON A LINE, as it stands now
abbrev pub GoesDownBy : Plan → Option Line → List Traffic → Type 0
GoesDownBy plan None total = Closed plan total
GoesDownBy plan (Some line) total = GoesDownWith plan line.exchange total
