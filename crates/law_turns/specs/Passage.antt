-- Three worked turns of one exchange: its request is held by the second of two filters, goes on by a tick of that one's root, and is
-- responded to.
use Rattle.std.specs.Prelude.{true, false, List, [], ◌∷◌, ◌++◌, None, Some, codes}
use Rattle.contexts.specs.declared.parts.Contexts.{Contexts}
use Rattle.contexts.specs.declared.parts.EffectKind.TheVariants as effects
use Rattle.filter_host.specs.Course.{Course, Met, heard}
use Rattle.filter_host.specs.Heard.{hands, halts}
use Rattle.filter_host.specs.declared.host.CallbackEnd.TheVariants.{Returned}
use Rattle.filter_host.specs.declared.host.Callback.TheVariants.{ContextCreate, Tick, RequestHeaders, ResponseHeaders, Done, Log, Delete}
use Rattle.gate_config.specs.declared.entries.PluginEntry.{PluginEntry}
use Rattle.gate_io.specs.declared.event.Event.{Event}
use Rattle.gate_io.specs.declared.event.Sent.{Sent}
use Rattle.gate_io.specs.declared.event.Sent.TheVariants as sent
use Rattle.gate_io.specs.declared.event.Side.TheVariants.{Down, Up}
use Rattle.gate_io.specs.declared.event.What.TheVariants as whats
use Rattle.h1_model.specs.Examples.{worked_text, worked_head, worked_response_text, worked_response}
use Rattle.h1_model.specs.Messages.{body, done, counted, rest}
use Rattle.h1_model.specs.Unread.{Reading, head_part, piece, new_reading, reading_with_bytes, moved_on, awaiting_bytes}
use Rattle.worker_model.specs.Plan.{Plan}
use Rattle.worker_model.specs.Steps.{Both, with_tick}
use Rattle.worker_model.specs.Turn.{Outcome, turn}
use Rattle.law_turns.specs.Tables.{Call, call, Deed, calling_by, Comes}
use Rattle.law_turns.specs.Answer.{behind_head}
use Rattle.law_turns.specs.Scenes.{line_of, plugin, contexts_with_roots, line, state, event, plan_of}

abbrev pub plugins : List PluginEntry
plugins = plugin (codes "p") false ∷ plugin (codes "q") false ∷ []

abbrev pub plan : Plan
plan = record (plan_of plugins) { routes = record { path = codes "/"; filters = 0 ∷ 1 ∷ [] } ∷ [] }

-- root 2 has a tick at the first second, and the next one 10 seconds later
abbrev pub contexts : Contexts
contexts = with_tick 0 2 (record { period = 10000000000; due = 1000000000 }) (contexts_with_roots plugins)

-- `q`, whose context is 4, pauses at the request's head; the tick of its root has the request go on
abbrev pub holds : List Deed
holds =
    record { name = RequestHeaders; context = 4; end = Returned (Some 1); effects = [] }
    ∷ record { name = Tick; context = 2; end = Returned None; effects = record { context = 4; what = effects.Continue false } ∷ [] } ∷ []

abbrev pub turn_of : Both (List Call) → Event → Course (Outcome (List Call))
turn_of from e = turn (calling_by holds) plan from e

-- what that of the server has before and after the head, and after the body
abbrev pub response : Reading
response = reading_with_bytes (worked_response_text ++ codes "abc") (new_reading (Some (codes "GET")))

abbrev pub behind_response : Reading
behind_response = moved_on 38 (body (counted 3)) response

abbrev pub behind_body : Reading
behind_body = moved_on 3 done behind_response

-- THE REQUEST COMES
abbrev pub first : Course (Outcome (List Call))
first = turn_of (state (line 1 None ∷ []) contexts) (event 0 (whats.Bytes 1 Down worked_text))

abbrev pub first_met : List Met
first_met = heard (hands (head_part worked_head) behind_head) ∷ []

abbrev pub first_calls : List Call
first_calls = call ContextCreate 3 1 0 ∷ call ContextCreate 4 2 0 ∷ call RequestHeaders 3 4 1 ∷ call RequestHeaders 4 4 1 ∷ []

-- A TICK
abbrev pub second : Both (List Call) → Course (Outcome (List Call))
second from = turn_of from (event 1000000000 whats.Clock)

abbrev pub second_calls : List Call
second_calls = first_calls ++ call Tick 2 0 0 ∷ []

abbrev pub goes_up : List Sent
goes_up =
    sent.Connect 1
    ∷ sent.Bytes 1 Up (line_of (codes "GET / HTTP/1.1") ++ line_of (codes "host: a") ++ line_of (codes "via: 1.1 wasmgate") ++ line_of (codes "connection: close") ++ line_of [])
    ∷ []

-- THE RESPONSE COMES
abbrev pub third : Both (List Call) → Course (Outcome (List Call))
third from = turn_of from (event 2000000000 (whats.Bytes 1 Up (worked_response_text ++ codes "abc")))

abbrev pub third_met : List Met
third_met =
    heard (hands (head_part worked_response) behind_response)
    ∷ heard (hands (piece (codes "abc") true) behind_body)
    ∷ heard (halts rest (awaiting_bytes behind_head)) ∷ []

-- it passes the second filter and then the first
abbrev pub third_calls : List Call
third_calls =
    second_calls
    ++ call ResponseHeaders 4 2 0 ∷ call ResponseHeaders 3 2 0
    ∷ call Done 3 0 0 ∷ call Log 3 0 0 ∷ call Delete 3 0 0 ∷ call Done 4 0 0 ∷ call Log 4 0 0 ∷ call Delete 4 0 0 ∷ []

abbrev pub goes_down : List Sent
goes_down =
    sent.Bytes 1 Down (line_of (codes "HTTP/1.1 200 ") ++ line_of (codes "content-length: 3") ++ line_of (codes "date: Thu, 01 Jan 1970 00:00:02 GMT") ++ line_of [] ++ codes "abc")
    ∷ sent.Close 1 Up ∷ []

-- each turn begins where the one before it has ended
pub record PassageExample : Type 0 where
  -- nothing is sent while it is held
  pub holds_back : Comes first first_met first_calls [] (1 ∷ [])
  pub lets_go : Comes (second holds_back.end.state) [] second_calls goes_up (1 ∷ [])
  pub responds : Comes (third lets_go.end.state) third_met third_calls goes_down (1 ∷ [])
