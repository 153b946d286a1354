-- What goes up on a line, exchange by exchange.
use Rattle.std.specs.List.{flat_map}
use Rattle.std.specs.Prelude.{◌≡◌, ◌≤◌, ℕ, Bool, true, false, ◌||◌, List, [], ◌∷◌, ◌++◌, map, length, Option, None, Some}
use Rattle.exchange.specs.declared.types.Exchange.{Exchange}
use Rattle.exchange.specs.declared.types.Hub.{Hub}
use Rattle.exchange.specs.Heads.{path_of, request_of, route_in, sent_head, up_framing, up_tail}
use Rattle.exchange.specs.Leaving.{request_framing}
use Rattle.exchange.specs.Maps.{request_map}
use Rattle.law_exchange.specs.Lives.{Deed, Lives, is_over}
use Rattle.law_exchange.specs.Responses.{IsMessage}
use Rattle.law_exchange.specs.Traffic.{Traffic, opens, byte, closes, up_traffic, traffic, IsFront}
use Rattle.filter_chain.specs.declared.item.ChainItem.{ChainItem}
use Rattle.filter_chain.specs.declared.item.ChainItem.TheVariants.{Head as head, Piece, Trailers}
use Rattle.filter_chain.specs.declared.item.Held.TheVariants as held
use Rattle.filter_chain.specs.declared.stage.Stage.{Stage}
use Rattle.h1_write.specs.Lines.{OutRequest, out_items, out_wire, in_items}
use Rattle.h1_write.specs.Requests.{request_fields}
use Rattle.h1_write.specs.Round.{FitsSection, Suits, body_items, stop_behind, IsReadAs}
use Rattle.header_maps.specs.Headers.{Headers}
use Rattle.h1_model.specs.Framing.{OutItem, head_wire, items_wire}
use Rattle.h1_model.specs.Framing as out
use Rattle.h1_model.specs.Head.{Head, SpellsStep, found}
use Rattle.h1_model.specs.Lines.{head_limit, line_limit}
use Rattle.h1_model.specs.Messages.{head as head_is_due}
use Rattle.h1_model.specs.Target.{absolute}
use Rattle.h1_model.specs.Unread.{Reading}
use Rattle.worker_model.specs.Plan.{Plan}
use Rattle.worker_model.specs.Steps.{exchange_for, is_last, line_in, line_reading}
use Rattle.worker_model.specs.Room.{Room}
use Rattle.law_lines.specs.Heard.{WasHeard}
use Rattle.law_lines.specs.Living.{requests_in}

-- a head of a request as heads are judged: some text spells it
pub record IsJudged (h : Head) : Type 0 where
  pub text : List ℕ
  pub used : ℕ
  pub spells : SpellsStep text (found h used)

-- THE REQUEST OF A HEAD on its way up: its fields are those of the head that was judged, with `via` and `connection: close` after them, and it is
-- framed as that head, or in chunks where a plug-in of the route filters bodies
pub record IsSentOf (h : Head) (q : OutRequest) : Type 0 where
  pub filtered : Bool
  pub head : q.head ≡ sent_head h.fields (up_tail h.minor)
  pub framing : q.framing ≡ up_framing filtered (request_of h)

-- A reader has room for the head of it: it has at most as many field lines and bytes as a reader takes. (The head that was judged had so; `host`, the
-- field that tells the framing, `via` and `connection: close` are written anew.)
pub record HasRoom (q : OutRequest) : Type 0 where
  pub few : length (request_fields q.framing q.head) ≤ line_limit
  pub short : length (head_wire q.framing q.head) ≤ head_limit

-- where its target was received in another than the absolute form, a reader with room for its head reads its bytes back as that request and nothing
-- else, where its pieces suit its framing; `ended` says that no bytes follow
abbrev pub ReadsBack : Head → OutRequest → Type 0
ReadsBack h q =
    (ended : Bool) → (h.form ≡ Some absolute → ⊥) → HasRoom q → Suits q.framing q.pieces q.ending ended []
    → IsReadAs (out_wire q) ended None head_is_due (in_items q) (stop_behind ended None)

-- the last item of a message is among them
abbrev pub is_whole : List ChainItem → Bool
is_whole [] = false
is_whole (item ∷ items) = is_last item || is_whole items

-- where these items came of it, among them the last of its message, its pieces suit its framing: so a reader with room for its head reads its bytes back as
-- that one request and nothing else, where its trailers, if it has any, are fields with room in a reader's section
abbrev pub WholeReadsBack : Head → List ChainItem → OutRequest → Type 0
WholeReadsBack h came q =
    (ended : Bool) → is_whole came ≡ true → (h.form ≡ Some absolute → ⊥) → HasRoom q → FitsSection q.ending → IsReadAs (out_wire q) ended None head_is_due (in_items q) (stop_behind ended None)

-- an exchange as it begins: with a head that was judged, at a place among the exchanges of the contexts, at a moment, with the VMs that are dead then,
-- on the route that takes the path
pub record IsBegun (plan : Plan) (h : Head) (x : Exchange) : Type 0 where
  pub place : ℕ
  pub now : ℕ
  pub dead : List ℕ
  pub is : x ≡ exchange_for plan place now dead h (route_in plan.routes (path_of h.fields))
  pub judged : IsJudged h

-- and what all lines have in common then: that moment, with the map of that head's fields at its place
pub record Began (plan : Plan) (h : Head) (x : Exchange) (hub : Hub) : Type 0 where
  pub begun : IsBegun plan h x
  pub moment : hub.moment ≡ begun.now
  pub map : request_map begun.place hub.contexts ≡ h.fields

-- ---- the items of a request, and the same on their way out

abbrev pub IsOf : Head → ChainItem → OutItem → Type 0
IsOf h (head end) (out.head g) = g ≡ sent_head h.fields (up_tail h.minor)
IsOf h (Piece bytes end) (out.piece went last) = (went ≡ bytes) × (last ≡ end)
IsOf h Trailers (out.trailers fields) = Unit {0}
IsOf h item o = ⊥

abbrev pub AreOf : Head → List ChainItem → List OutItem → Type 0
AreOf h [] [] = Unit {0}
AreOf h [] (o ∷ outs) = ⊥
AreOf h (item ∷ items) [] = ⊥
AreOf h (item ∷ items) (o ∷ outs) = IsOf h item o × AreOf h items outs

-- ---- what an exchange sent up

-- A REQUEST ON ITS WAY UP: framed as the exchange frames it, with `via` and `connection: close` behind some fields. What filters made of the fields of its
-- head is not said, nor that they are fields that a reader takes.
pub record IsMadeOf (h : Head) (first : Exchange) (q : OutRequest) : Type 0 where
  pub fields : Headers
  pub head : q.head ≡ sent_head fields (up_tail h.minor)
  pub framing : q.framing ≡ request_framing first

-- ONE CONNECTION AND ONE MESSAGE: the whole head of one request, and items of a body as far as they went, of which the last alone ends it. Which bytes its
-- pieces hold is not said, nor that they are as many as a head tells.
pub record IsOneRequest (h : Head) (first : Exchange) (t : List Traffic) : Type 0 where
  pub request : OutRequest
  pub made : IsMadeOf h first request
  pub items : List OutItem
  pub front : IsFront items (body_items request.pieces request.ending)
  pub is : t ≡ opens ∷ map byte (items_wire request.framing (out.head request.head ∷ items))

-- what an exchange sent up: nothing, or that
pub data GoesUp (h : Head) (first : Exchange) (t : List Traffic) : Type 0 where
  sends_nothing : t ≡ [] → GoesUp h first t
  sends_request : IsOneRequest h first t → GoesUp h first t

-- ALL OF IT: the whole message, to the end of its body
pub record IsAllOfOne (h : Head) (first : Exchange) (t : List Traffic) : Type 0 where
  pub request : OutRequest
  pub made : IsMadeOf h first request
  pub is : t ≡ opens ∷ map byte (out_wire request)

-- no stage holds an item, or has one that waits
abbrev pub AreEmpty : List Stage → Type 0
AreEmpty [] = Unit {0}
AreEmpty (s ∷ stages) = (s.held ≡ held.Nothing) × (s.waiting ≡ []) × AreEmpty stages

-- of one without filters, to whose chain these items came: a front of one connection and the bytes of one request, that of its head, exactly, with the
-- pieces that came
pub record IsExact (h : Head) (came : List ChainItem) (t : List Traffic) : Type 0 where
  pub request : OutRequest
  pub sent_of : IsSentOf h request
  pub reads_back : ReadsBack h request
  pub whole_reads_back : WholeReadsBack h came request
  pub outs : List OutItem
  pub of : AreOf h came outs
  pub items : IsFront outs (out_items request)
  pub front : IsFront t (opens ∷ map byte (out_wire request))

-- ---- exchange by exchange

-- an exchange that has ended, as it began, with its head; the items of its request that were heard, and those that came to its chain; and what it sent up
pub record Part : Type 0 where
  pub head : Head
  pub first : Exchange
  pub heard : List ChainItem
  pub came : List ChainItem
  pub went : List Traffic

pub record IsPart (plan : Plan) (p : Part) : Type 0 where
  pub begun : IsBegun plan p.head p.first
  pub now : Reading
  pub was_heard : WasHeard p.head p.heard now
  pub came_first : IsFront p.came p.heard
  pub goes : GoesUp p.head p.first p.went
  pub exact : p.first.filters ≡ [] → IsExact p.head p.came p.went

-- its connection is closed, where one was opened
abbrev pub close_behind : List Traffic → List Traffic
close_behind [] = []
close_behind (one ∷ went) = closes ∷ []

abbrev pub traffic_of : Part → List Traffic
traffic_of p = p.went ++ close_behind p.went

abbrev pub AreParts : Plan → List Part → Type 0
AreParts plan [] = Unit {0}
AreParts plan (p ∷ parts) = IsPart plan p × AreParts plan parts

-- ONE EXCHANGE BEHIND THE OTHER, each with what it sent up and the close of its connection. (That they are the exchanges of a line, each once, is not said.)
pub record OneByOne (plan : Plan) (total : List Traffic) : Type 0 where
  pub parts : List Part
  pub are : AreParts plan parts
  pub is : total ≡ flat_map traffic_of parts

-- WHAT AN EXCHANGE WITHOUT FILTERS HAS SENT UP while it is open: a front of one connection and the bytes of one request, that of its head, exactly
pub record IsSoFar (x : Exchange) (h : Head) (items : List ChainItem) (went : List Traffic) : Type 0 where
  pub request : OutRequest
  pub sent_of : IsSentOf h request
  pub reads_back : ReadsBack h request
  pub whole_reads_back : WholeReadsBack h items request
  -- what was read of it and came to its chain is a front of one message; and the same as it goes out
  pub message : IsMessage items
  pub came : List OutItem
  pub of : AreOf h items came
  pub front : IsFront went (opens ∷ map byte (out_wire request))
  -- where it was neither answered nor has ended: all of that; and so the whole request, once its last item came
  pub all : is_over x ≡ false → went ≡ traffic request.framing came
  pub whole : is_over x ≡ false → is_whole items ≡ true → went ≡ opens ∷ map byte (out_wire request)

-- its request is that of the other, but for whether it was read whole
abbrev pub IsAskedAs : Exchange → Exchange → Type 0
IsAskedAs x first = x.asked ≡ record first.asked { whole = x.asked.whole }

-- WHAT WENT UP ON A LINE WITH AN EXCHANGE: after what the exchanges before it sent, what it sent itself
pub record IsOpen (plan : Plan) (n : ℕ) (room : Room) (x : Exchange) (total : List Traffic) : Type 0 where
  pub before : List Traffic
  pub one_by_one : OneByOne plan before
  pub head : Head
  pub first : Exchange
  pub begun : IsBegun plan head first
  -- that exchange is the one on the line: at the same place, asked the same, and framed the same
  pub place : x.place ≡ first.place
  pub asked : IsAskedAs x first
  pub framed : request_framing x ≡ request_framing first
  -- what was heard of its request, by the reader of the line's client, which now reads so; and of that what came to its chain: all, where nothing is in
  -- hand, unless it was answered or has ended; its last item is among them then exactly where the exchange takes its request for read whole
  pub heard : List ChainItem
  pub now : Reading
  pub reads : line_reading false (line_in n room.lines) ≡ Some now
  pub was_heard : WasHeard head heard now
  pub came : List ChainItem
  pub came_first : IsFront came heard
  pub came_all : is_over x ≡ false → room.reading ≡ None → room.jobs ≡ [] → came ≡ heard
  pub read_whole : is_over x ≡ false → room.reading ≡ None → room.jobs ≡ [] → is_whole came ≡ x.asked.whole
  pub went : List Traffic
  pub adds : total ≡ before ++ went
  pub goes : GoesUp head first went
  -- where it was neither answered nor has ended, its last item came, and no stage has anything of it: all of it
  pub all : is_over x ≡ false → AreEmpty x.request → is_whole came ≡ true → IsAllOfOne head first went
  pub exact : x.filters ≡ [] → IsSoFar x head came went

-- what went up on a line, by the exchange that is on it now
abbrev pub GoesUpBy : Plan → ℕ → Room → Option Exchange → List Traffic → Type 0
GoesUpBy plan n room None total = OneByOne plan total
GoesUpBy plan n room (Some x) total = IsOpen plan n room x total

-- THE LIFE OF AN EXCHANGE of a line, from its begin on: after what the exchanges before it sent up, it began with the head of a request that was judged,
-- and these fair deeds happened to it, of the worker, of its filters and of the machines, with these items of its request on the way. (A deed that is none
-- of its own functions leaves any exchange without stages of a request that is framed the same. So what ties it to its begin, besides what went up, is its
-- place and its request.)
pub record HasLived (plan : Plan) (n : ℕ) (x : Exchange) (after : Hub) : Type 0 where
  pub head : Head
  pub start : Exchange
  pub start_hub : Hub
  pub began : Began plan head start start_hub
  pub before : OneByOne plan (up_traffic n start_hub.sent)
  pub deeds : List Deed
  pub came : List OutItem
  pub lives : Lives n start start_hub deeds came x after
  pub place : x.place ≡ start.place
  pub asked : IsAskedAs x start
  pub message : IsMessage (requests_in deeds)
  pub of : AreOf head (requests_in deeds) came
