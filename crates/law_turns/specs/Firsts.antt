-- What an event finds: its line as the turn before it left it, where nothing is due at its moment; and what else it may find.
use Rattle.std.specs.Prelude.{◌≡◌, ℕ, ◌+◌, ◌≤◌, true, false, List, [], ◌∷◌, ◌++◌, Some, codes}
use Rattle.std.specs.List.{list_any}
use Rattle.callouts.specs.Callouts.{is_of_call, line_in, due_at as due_calls_at}
use Rattle.contexts.specs.Creating.{open_exchange}
use Rattle.filter_host.specs.Called.{Calling}
use Rattle.filter_host.specs.Course.{Course, ends, then_do, Met, heard}
use Rattle.filter_host.specs.Heard.{hands}
use Rattle.exchange.specs.declared.types.Exchange.{Exchange}
use Rattle.filter_chain.specs.declared.item.Held.TheVariants as held
use Rattle.gate_io.specs.Events.{is_stop}
use Rattle.gate_io.specs.declared.event.Event.{Event}
use Rattle.gate_io.specs.declared.event.Sent.{Sent}
use Rattle.gate_io.specs.declared.event.Sent.TheVariants as sent
use Rattle.gate_io.specs.declared.event.Side.TheVariants.{Down, Up}
use Rattle.gate_io.specs.declared.event.What.TheVariants as whats
use Rattle.h1_model.specs.Examples.{worked_head, worked_response_text}
use Rattle.h1_model.specs.Unread.{head_part, new_reading}
use Rattle.worker_model.specs.Plan.{Plan}
use Rattle.worker_model.specs.Rooms.{next_of}
use Rattle.worker_model.specs.Settling.{settling, is_rest}
use Rattle.worker_model.specs.Steps.{Both, take_event, is_late}
use Rattle.worker_model.specs.Turn.{Outcome, turn, at_moment, outcome_of, most_steps, notices_of, ticks_due, vms_in}
use Rattle.worker_model.specs.Room as rooms
use Rattle.law_turns.specs.Tables.{Call, calling_by, Comes}
use Rattle.law_turns.specs.Answer.{unread, behind_head}
use Rattle.law_turns.specs.Passage.{third_met}
use Rattle.law_turns.specs.Scenes.{line_of, get_map, contexts_with_roots, filter_of, stage, exchange, line, state, event, open_plan}

-- ---- nothing is due

-- a worker that has begun, and is at rest; at this moment no tick is due, no response, and no callout
pub record NothingIsDue (now : ℕ) (room : rooms.Room) : Type 0 where
  pub begun : room.is_begun ≡ true
  pub at_rest : is_rest (next_of room) ≡ true
  pub no_tick : ticks_due (at_moment now room) ≡ []
  pub no_deadline : list_any (is_late now) room.lines ≡ false
  pub no_call : due_calls_at now room.calls ≡ []

-- the room that its event finds: it is as it was, at the event's moment, and what is left of the turn are notices
abbrev pub found_by : Plan → Event → rooms.Room → rooms.Room
found_by plan e room = record (at_moment e.now room) { jobs = []; agenda = notices_of plan (vms_in room); is_begun = true }

-- the event happens in that room, and all that comes of it is done, by nearly as many steps as a turn has
pub record ComesFirst {H : Type 0} (calling : Calling H) (plan : Plan) (from : Both H) (e : Event) : Type 0 where
  pub left : ℕ
  pub many : most_steps ≤ left + 4
  pub course : turn calling plan from e ≡ then_do (settling calling plan left from.host (take_event e.what (found_by plan e from.room))) (λ b. ends (outcome_of b))

-- WHERE NOTHING IS DUE THE EVENT COMES FIRST, where it is not of a line from 2^31 on: no callback is called, no line changes and nothing is sent in front of it.
abbrev pub EventsComeFirst : (H : Type 0) → Type 0
EventsComeFirst H =
    (calling : Calling H) (plan : Plan) (from : Both H) (e : Event) → is_stop e.what ≡ false → is_of_call (line_in e.what) ≡ false → NothingIsDue e.now from.room → ComesFirst calling plan from e

-- ---- something is due

-- two requests came at once; the first one went up, and its response is due
abbrev pub asked : Exchange
asked = record (exchange 0 (filter_of 0 false 1) (stage false 1 held.Nothing) (stage true 1 held.Nothing)) {
  filters = [];
  request = [];
  response = [];
  reader = Some (new_reading (Some (codes "GET")));
  due = Some 1000000000;
  is_read = false;
  stays = true;
}

abbrev pub two_requests : Both (List Call)
two_requests = state (record (line 1 (Some asked)) { requests = unread } ∷ []) (open_exchange 1 get_map (contexts_with_roots []))

abbrev pub due_plan : Plan
due_plan = record open_plan { deadline = 1000 }

-- AT THAT MOMENT A RESPONSE COMES. The first request is answered 504 first, its connection is closed, and the second one goes up over another; and what comes
-- then is taken for the response of the second. So a world that has heard it of the first connection must not give it then: it is to let what is due
-- be done in a turn of its own, and to close that connection.
abbrev pub late : Course (Outcome (List Call))
late = turn (calling_by []) due_plan two_requests (event 1000000000 (whats.Bytes 1 Up (worked_response_text ++ codes "abc")))

abbrev pub late_met : List Met
late_met = heard (hands (head_part worked_head) behind_head) ∷ third_met

abbrev pub second_date : List ℕ
second_date = line_of (codes "date: Thu, 01 Jan 1970 00:00:01 GMT")

abbrev pub goes_up : List ℕ
goes_up = line_of (codes "GET / HTTP/1.1") ++ line_of (codes "host: a") ++ line_of (codes "via: 1.1 wasmgate") ++ line_of (codes "connection: close") ++ line_of []

abbrev pub late_sends : List Sent
late_sends =
    sent.Bytes 1 Down (line_of (codes "HTTP/1.1 504 ") ++ line_of (codes "content-length: 0") ++ second_date ++ line_of [])
    ∷ sent.Close 1 Up
    ∷ sent.Connect 1
    ∷ sent.Bytes 1 Up goes_up
    ∷ sent.Bytes 1 Down (line_of (codes "HTTP/1.1 200 ") ++ line_of (codes "content-length: 3") ++ second_date ++ line_of [] ++ codes "abc")
    ∷ sent.Close 1 Up ∷ []

-- What is due is done in a turn of its own, which is told only that time passed, at the same moment. The first connection is closed in it.
abbrev pub first : Course (Outcome (List Call))
first = turn (calling_by []) due_plan two_requests (event 1000000000 whats.Clock)

abbrev pub first_sends : List Sent
first_sends =
    sent.Bytes 1 Down (line_of (codes "HTTP/1.1 504 ") ++ line_of (codes "content-length: 0") ++ second_date ++ line_of [])
    ∷ sent.Close 1 Up
    ∷ sent.Connect 1
    ∷ sent.Bytes 1 Up goes_up ∷ []

-- THE SAME BYTES IN A TURN BEHIND THAT ONE: an event names a line and no connection, so they are taken for the response of the second request all the same. Only
-- a world that gives nothing more of a connection which its worker has closed keeps them off.
abbrev pub behind : Both (List Call) → Course (Outcome (List Call))
behind from = turn (calling_by []) due_plan from (event 1000000001 (whats.Bytes 1 Up (worked_response_text ++ codes "abc")))

abbrev pub behind_sends : List Sent
behind_sends =
    sent.Bytes 1 Down (line_of (codes "HTTP/1.1 200 ") ++ line_of (codes "content-length: 3") ++ second_date ++ line_of [] ++ codes "abc")
    ∷ sent.Close 1 Up ∷ []

pub record LateExample : Type 0 where
  pub at_once : Comes late late_met [] late_sends (1 ∷ [])
  pub apart : Comes first (heard (hands (head_part worked_head) behind_head) ∷ []) [] first_sends (1 ∷ [])
  -- and then nothing is due at the next moment
  pub nothing_due : NothingIsDue 1000000001 apart.end.state.room
  -- and bytes that are given at that moment are taken for the second request, whichever connection they came over
  pub taken : Comes (behind apart.end.state) third_met [] behind_sends (1 ∷ [])
