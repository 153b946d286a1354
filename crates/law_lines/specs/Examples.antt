-- Worked turns of a new worker without machines: a GET, and two GETs that come at once.
use Rattle.std.specs.Prelude.{◌≡◌, ◌≤◌, suc, ℕ, true, false, List, [], ◌∷◌, ◌++◌, map, None, codes}
use Rattle.contexts.specs.Making.{no_contexts}
use Rattle.exchange.specs.declared.types.Exchange.{Exchange}
use Rattle.law_exchange.specs.Lives.{is_over}
use Rattle.law_exchange.specs.Traffic.{Traffic, opens, byte, closes, up_traffic}
use Rattle.gate_base.specs.declared.level.Level.TheVariants.{Info}
use Rattle.gate_io.specs.declared.event.Event.{Event}
use Rattle.gate_io.specs.declared.event.Side.TheVariants.{Down, Up}
use Rattle.gate_io.specs.declared.event.What.{What}
use Rattle.gate_io.specs.declared.event.What.TheVariants as whats
use Rattle.exchange.specs.Heads.{length_of, sent_head, up_tail}
use Rattle.exchange.specs.Leaving.{request_framing}
use Rattle.h1_write.specs.Lines.{OutRequest, out_wire}
use Rattle.h1_write.specs.Round.{last_bytes}
use Rattle.httparse.specs.Ascii.{crlf_bytes}
use Rattle.h1_model.specs.Examples.{worked_head, worked_text, worked_wire, worked_response_text}
use Rattle.h1_model.specs.Framing.{no_body, by_chunks}
use Rattle.h1_model.specs.Head.{Head}
use Rattle.h1_model.specs.Length.{chunked}
use Rattle.worker_model.specs.NoCalls.{no_calling}
use Rattle.worker_model.specs.Plan.{Plan}
use Rattle.worker_model.specs.Steps.{Both, both}
use Rattle.worker_model.specs.declared.no_machines.NoMachines.{NoMachines}
use Rattle.worker_model.specs.Room.{Room}
use Rattle.worker_model.specs.declared.types.Line.{Line}
use Rattle.law_lines.specs.Clients.{client_traffic}
use Rattle.law_lines.specs.Logs.{WriteLogs}
use Rattle.law_lines.specs.Requests.{IsJudged, HasRoom, GoesUp, IsAllOfOne, AreEmpty, IsOpen, Part, IsPart, traffic_of}
use Rattle.law_lines.specs.Turns.{Done, Turns, new_room, sent_in}

-- one route, which takes every path and has no filters
abbrev pub open_plan : Plan
open_plan = record { routes = record { path = codes "/"; filters = [] } ∷ []; plugins = []; vms = 0; deadline = 0; bodies = []; registers = []; tcp = [] }

abbrev pub new_worker : Both NoMachines
new_worker = both (record { none = true }) (new_room (no_contexts Info []))

abbrev pub event : What → Event
event what = record { now = 0; what = what }

abbrev pub whole_response : List ℕ
whole_response = worked_response_text ++ codes "abc"

-- a GET goes up, and its response comes down; the line stays
abbrev pub get_events : List Event
get_events = event (whats.Opened 1) ∷ event (whats.Bytes 1 Down worked_text) ∷ event (whats.Bytes 1 Up whole_response) ∷ []

-- two at once: the second goes up after the response to the first, over a connection of its own
abbrev pub pipeline_events : List Event
pipeline_events = event (whats.Opened 1) ∷ event (whats.Bytes 1 Down (worked_text ++ worked_text)) ∷ event (whats.Bytes 1 Up whole_response) ∷ []

-- the request that goes up
abbrev pub worked_request : OutRequest
worked_request = record { framing = no_body; head = sent_head worked_head.fields (up_tail worked_head.minor); pieces = []; ending = last_bytes [] }

-- what goes down with the response: its head, with the date of that moment, and its body; the line stays, so that nothing tells a close
abbrev pub answered_wire : List ℕ
answered_wire =
    codes "HTTP/1.1 200 " ++ crlf_bytes ++ codes "content-length: 3" ++ crlf_bytes ++ codes "date: Thu, 01 Jan 1970 00:00:00 GMT" ++ crlf_bytes ++ crlf_bytes ++ codes "abc"

-- there are such turns
pub record Runs (events : List Event) : Type 0 where
  pub turns : List (Done NoMachines)
  pub to : Both NoMachines
  pub run : Turns no_calling open_plan new_worker turns to
  pub happened : map (λ (t : Done NoMachines). t.event) turns ≡ events

-- how many connections are opened
abbrev pub opening_count : List Traffic → ℕ
opening_count [] = 0
opening_count (opens ∷ t) = suc (opening_count t)
opening_count (byte b ∷ t) = opening_count t
opening_count (closes ∷ t) = opening_count t

-- the head alone of a POST that goes up in chunks
abbrev pub posted_wire : List ℕ
posted_wire =
    codes "POST / HTTP/1.1" ++ crlf_bytes ++ codes "host: a" ++ crlf_bytes ++ codes "transfer-encoding: chunked" ++ crlf_bytes ++ codes "via: 1.1 wasmgate" ++ crlf_bytes ++ codes "connection: close" ++ crlf_bytes ++ crlf_bytes

-- WHAT THE DEFINITIONS REFUSE: an exchange opens no second connection, closes none of which nothing went up, and sends nothing after a close; and a head
-- that was not judged began none. The head alone is not all of a request in chunks, whatever filters made of its fields; so it is not all that went up of
-- one that was read whole, where nothing is in hand and no stage has anything of it. Without filters no second head goes up after the head. And the request
-- of an exchange with a body is not one that was heard without.
pub record Refused : Type 0 where
  pub once : (h : Head) (first : Exchange) (t : List Traffic) → GoesUp h first t → opening_count t ≤ 1
  pub opened : (p : Part) → traffic_of p ≡ closes ∷ [] → ⊥
  pub last : (plan : Plan) (p : Part) (s t : List Traffic) → IsPart plan p → traffic_of p ≡ s ++ closes ∷ t → t ≡ []
  pub judged : (plan : Plan) (p : Part) → (IsJudged p.head → ⊥) → IsPart plan p → ⊥
  pub alone : (h : Head) (first : Exchange) → request_framing first ≡ by_chunks → IsAllOfOne h first (opens ∷ map byte posted_wire) → ⊥
  pub stuck : (plan : Plan) (n : ℕ) (room : Room) (x : Exchange) → request_framing x ≡ by_chunks → x.asked.whole ≡ true → is_over x ≡ false → AreEmpty x.request → room.reading ≡ None → room.jobs ≡ []
      → IsOpen plan n room x (opens ∷ map byte posted_wire) → ⊥
  pub second : (plan : Plan) (p : Part) → p.head ≡ worked_head → p.first.filters ≡ [] → IsPart plan p → p.went ≡ opens ∷ map byte (worked_wire ++ worked_wire) → ⊥
  pub swapped : (plan : Plan) (n : ℕ) (room : Room) (x : Exchange) (total : List Traffic) → length_of x.asked.length ≡ chunked → (o : IsOpen plan n room x total) → o.head ≡ worked_head → ⊥

pub record LineExamples : Type 0 where
  -- machines that are none write logs alone
  pub logs : WriteLogs no_calling
  pub get : Runs get_events
  pub get_up : up_traffic 1 (sent_in get.turns) ≡ opens ∷ map byte worked_wire ++ closes ∷ []
  pub get_down : client_traffic 1 (sent_in get.turns) ≡ map byte answered_wire
  pub get_stays : map (λ (l : Line). l.number) get.to.room.lines ≡ 1 ∷ []
  pub pipeline : Runs pipeline_events
  pub pipeline_up : up_traffic 1 (sent_in pipeline.turns) ≡ opens ∷ map byte worked_wire ++ closes ∷ opens ∷ map byte worked_wire
  -- the response to the first alone goes down as yet
  pub pipeline_down : client_traffic 1 (sent_in pipeline.turns) ≡ map byte answered_wire
  -- a reader has room for its head
  pub wire : out_wire worked_request ≡ worked_wire
  pub room : HasRoom worked_request
  pub refused : Refused
