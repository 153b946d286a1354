-- What an exchange sent up, with any filters, as a reader of requests reads it.
use Rattle.std.specs.Prelude.{◌≡◌, ◌≤◌, ◌+◌, ◌||◌, ℕ, Bool, true, false, List, [], ◌∷◌, map, length, Option, None, Some}
use Rattle.std.specs.List.{flat_map, list_all}
use Rattle.exchange.specs.declared.types.Exchange.{Exchange}
use Rattle.law_exchange.specs.Lives.{is_over}
use Rattle.law_exchange.specs.Traffic.{Traffic, opens, byte, closes, IsFront}
use Rattle.h1_write.specs.Laws.{is_short}
use Rattle.h1_write.specs.Lines.{OutRequest, out_wire}
use Rattle.h1_write.specs.Requests.{method_of, path_of, own_target}
use Rattle.h1_write.specs.Round.{FitsSection, last_trailers, body_items}
use Rattle.header_maps.specs.Headers.{Headers}
use Rattle.header_maps.specs.Kept.{IsHeaders}
use Rattle.header_maps.specs.declared.kind.ListKind.TheVariants as kinds
use Rattle.h1_model.specs.Framing.{Framing, no_body, by_length, by_chunks, by_close, OutItem, items_wire}
use Rattle.h1_model.specs.Framing as out
use Rattle.h1_model.specs.Head.{Head}
use Rattle.h1_model.specs.Target.{GivesTarget}
use Rattle.worker_model.specs.Plan.{Plan}
use Rattle.worker_model.specs.Room.{Room}
use Rattle.law_lines.specs.Requests.{is_whole, AreEmpty, HasRoom, IsMadeOf, IsOpen, Part, AreParts, traffic_of}
use Rattle.law_read_back.specs.OneRequest.{IsNeverTwo, IsReadAsOne}

-- the bytes of traffic
abbrev pub bytes_in : List Traffic → List ℕ
bytes_in [] = []
bytes_in (opens ∷ t) = bytes_in t
bytes_in (byte b ∷ t) = b ∷ bytes_in t
bytes_in (closes ∷ t) = bytes_in t

-- ---- what is asked of a request that was made

-- the fields of a head are the list of a request (as each map of the headers of a request is by its type)
pub record IsRequestList (fields : Headers) : Type 0 where
  pub kind : fields.kind ≡ kinds.Request
  pub list : IsHeaders fields

-- THEY MAKE A HEAD that a reader takes in: they are such a list, its path is a target by itself, and the head has room in a reader
pub record IsTakenIn (fields : Headers) (q : OutRequest) : Type 0 where
  pub listed : IsRequestList fields
  pub target : GivesTarget (method_of q.head) (path_of q.head) (own_target (path_of q.head))
  pub room : HasRoom q

-- the pieces among items of a body
abbrev pub pieces_in : List OutItem → List (List ℕ)
pieces_in [] = []
pieces_in (out.head h ∷ items) = pieces_in items
pieces_in (out.interim h ∷ items) = pieces_in items
pieces_in (out.piece bytes last ∷ items) = bytes ∷ pieces_in items
pieces_in (out.trailers fields ∷ items) = pieces_in items

abbrev pub sizes : List (List ℕ) → ℕ
sizes [] = 0
sizes (bytes ∷ pieces) = length bytes + sizes pieces

-- the last item of a body is among them
abbrev pub is_ended : List OutItem → Bool
is_ended [] = false
is_ended (out.head h ∷ items) = is_ended items
is_ended (out.interim h ∷ items) = is_ended items
is_ended (out.piece bytes last ∷ items) = last || is_ended items
is_ended (out.trailers fields ∷ items) = true

-- trailers have room in a reader's section, and are such as every list keeps
abbrev pub TrailersFit : List OutItem → Type 0
TrailersFit [] = Unit {0}
TrailersFit (out.head h ∷ items) = TrailersFit items
TrailersFit (out.interim h ∷ items) = TrailersFit items
TrailersFit (out.piece bytes last ∷ items) = TrailersFit items
TrailersFit (out.trailers fields ∷ items) = FitsSection (last_trailers fields) × TrailersFit items

-- THE ITEMS OF A BODY, as far as they went, are such as its framing carries: not more bytes than are told, and as many once its last item is there; or pieces
-- whose size a line of the coding has room for.
abbrev pub Carries : Framing → List OutItem → Type 0
Carries no_body items = Unit {0}
Carries (by_length n) items = (sizes (pieces_in items) ≤ n) × (is_ended items ≡ true → sizes (pieces_in items) ≡ n)
Carries by_chunks items = (list_all is_short (pieces_in items) ≡ true) × TrailersFit items
Carries by_close items = ⊥

-- ---- what an exchange sent up

-- WHICHEVER REQUEST IS NAMED for the one that was meant, of any fields, pieces and ending, framed as the gateway frames that exchange and with its tail: where
-- what went is a front of its bytes, its fields are a list and its body is carried, what a reader of requests makes of what went, whether more may come or the
-- connection is closed there, is a front of the items of that request, or nothing; and where its head is one that a reader takes in, what went is read as that
-- one. So the fields that filters left and the body that they wrote may be put here. (Where what went is a front of no such request's bytes, nothing is said: that
-- a gateway writes what such fields spell, and nothing else, is no clause of this crate.)
pub record IsReadAsAny (h : Head) (first : Exchange) (t : List Traffic) : Type 0 where
  pub never : (q : OutRequest) (made : IsMadeOf h first q) → IsFront (bytes_in t) (out_wire q) → IsRequestList made.fields → Carries q.framing (body_items q.pieces q.ending) → IsNeverTwo q (bytes_in t)
  pub read : (q : OutRequest) (made : IsMadeOf h first q) → IsFront (bytes_in t) (out_wire q) → IsTakenIn made.fields q → Carries q.framing (body_items q.pieces q.ending) → IsReadAsOne q (bytes_in t)

-- ONE CONNECTION AND A FRONT OF ONE REQUEST, as the gateway frames it and with its tail: there are fields and a body that spell what went. Where these are a
-- list and are carried, it is never read as two, whatever the path is and however long the head: what a reader of requests makes of the bytes that went, whether
-- more may come or the connection is closed there, is a front of the items of that request, or nothing. And where its head is one that a reader takes in, they
-- are read as that one. (That these fields are those of the exchange's map is not said; and of a body that went in part, the rest of `request` is made up: as
-- many zeros as are missing of a length, or none.) `any` says the same of every request that is named.
pub record IsReadFront (h : Head) (first : Exchange) (t : List Traffic) : Type 0 where
  pub request : OutRequest
  pub made : IsMadeOf h first request
  pub items : List OutItem
  pub front : IsFront items (body_items request.pieces request.ending)
  pub is : t ≡ opens ∷ map byte (items_wire request.framing (out.head request.head ∷ items))
  pub bytes : IsFront (bytes_in t) (out_wire request)
  pub never : IsRequestList made.fields → Carries request.framing items → IsNeverTwo request (bytes_in t)
  pub read : IsTakenIn made.fields request → Carries request.framing items → IsReadAsOne request (bytes_in t)
  pub any : IsReadAsAny h first t

pub data IsRead (h : Head) (first : Exchange) (t : List Traffic) : Type 0 where
  nothing_went : t ≡ [] → IsRead h first t
  one_went : IsReadFront h first t → IsRead h first t

-- ALL OF IT went: there are fields and a body that spell it, and where these are such as a reader takes in, it takes it as that one request, its end at the last
-- byte, and nothing is left over. `any` says of every request that is named what it says of a front.
pub record IsReadWhole (h : Head) (first : Exchange) (t : List Traffic) : Type 0 where
  pub request : OutRequest
  pub made : IsMadeOf h first request
  pub is : t ≡ opens ∷ map byte (out_wire request)
  pub bytes : bytes_in t ≡ out_wire request
  pub read : IsTakenIn made.fields request → Carries request.framing (body_items request.pieces request.ending) → IsReadAsOne request (bytes_in t)
  pub any : IsReadAsAny h first t

-- ---- exchange by exchange

abbrev pub AreRead : List Part → Type 0
AreRead [] = Unit {0}
AreRead (p ∷ parts) = IsRead p.head p.first p.went × AreRead parts

-- ONE EXCHANGE BEHIND THE OTHER, each over a connection of its own, and each read as one request
pub record EachIsRead (plan : Plan) (total : List Traffic) : Type 0 where
  pub parts : List Part
  pub are : AreParts plan parts
  pub is : total ≡ flat_map traffic_of parts
  pub read : AreRead parts

-- and the one that is open
pub record OpenIsRead (plan : Plan) (n : ℕ) (room : Room) (x : Exchange) (total : List Traffic) : Type 0 where
  pub on : IsOpen plan n room x total
  pub before : EachIsRead plan on.before
  pub read : IsRead on.head on.first on.went
  -- where it was neither answered nor has ended, its last item came, and no stage has anything of it: all of it went
  pub all : is_over x ≡ false → AreEmpty x.request → is_whole on.came ≡ true → IsReadWhole on.head on.first on.went

abbrev pub ReadBy : Plan → ℕ → Room → Option Exchange → List Traffic → Type 0
ReadBy plan n room None total = EachIsRead plan total
ReadBy plan n room (Some x) total = OpenIsRead plan n room x total
