-- ONE STEP of a worker.
use Rattle.std.specs.List.{list_any, position_or_len}
use Rattle.std.specs.Prelude.{option_map, ◌≡◌, ℕ, zero, suc, ◌+◌, ◌*◌, ◌-◌, ◌==◌, Bool, true, false, not, ◌&&◌, ◌||◌, List, [], ◌∷◌, ◌++◌, length, map, filter, reverse, slice_get, slice_set, remove, insert, Option, None, Some, is_some, is_none, nat_lt, nat_le, position, if◌then◌else◌}
use Rattle.callouts.specs.Callouts.{callout_in}
use Rattle.callouts.specs.declared.types.Callout.{Callout}
use Rattle.callouts.specs.declared.types.CallStep.{CallStep}
use Rattle.callouts.specs.declared.types.CallStep.TheVariants as steps
use Rattle.contexts.specs.declared.parts.CallAnswer.{CallAnswer}
use Rattle.contexts.specs.declared.parts.Contexts.{Contexts}
use Rattle.contexts.specs.declared.parts.Tick.{Tick}
use Rattle.contexts.specs.Creating.{next_id, plugin_in, root_created, is_root, stream_created, place_or, open_exchange, end_exchange, await_done_of, delete_id}
use Rattle.contexts.specs.Reached.{vm_in, tick_in, put, no_changes, contains, seen}
use Rattle.filter_host.specs.Course.{Course, ends, asks, hears, runs_then, then_do}
use Rattle.filter_host.specs.Called.{Called}
use Rattle.filter_host.specs.Heard.{Heard, hands, halts, Hears}
use Rattle.filter_host.specs.declared.host.Callback.{Callback}
use Rattle.filter_host.specs.declared.host.Callback.TheVariants as callbacks
use Rattle.filter_host.specs.declared.host.Death.{Death}
use Rattle.filter_host.specs.declared.host.Death.TheVariants as deaths
use Rattle.exchange.specs.declared.types.Exchange.{Exchange}
use Rattle.exchange.specs.declared.types.Filter.{Filter}
use Rattle.exchange.specs.declared.types.Hub.{Hub}
use Rattle.exchange.specs.Answering.{none_held}
use Rattle.exchange.specs.Heads.{is_bare, request_of, response_of, length_in, path_of, route_in, sent_head, is_final}
use Rattle.exchange.specs.Leaving.{bytes_sent_to as sending_to, is_due}
use Rattle.exchange.specs.Maps.{put_response, put_request_trailers, put_response_trailers, with_fields}
use Rattle.exchange.specs.Passing.{apply_action, refuse_exchange, expire_exchange, put_read_items}
use Rattle.filter_chain.specs.declared.stage.Stage as chain_stage
use Rattle.filter_chain.specs.declared.item.ChainItem.{ChainItem}
use Rattle.filter_chain.specs.declared.item.ChainItem.TheVariants as items
use Rattle.filter_chain.specs.declared.item.AskKind.{AskKind}
use Rattle.filter_chain.specs.declared.item.AskKind.TheVariants as kinds
use Rattle.filter_chain.specs.declared.item.Held.TheVariants as held
use Rattle.gate_config.specs.declared.entries.PluginEntry.{PluginEntry}
use Rattle.gate_config.specs.declared.entries.RouteEntry.{RouteEntry}
use Rattle.gate_io.specs.declared.event.Sent.{Sent}
use Rattle.gate_io.specs.declared.event.Sent.TheVariants as to
use Rattle.gate_io.specs.declared.event.Side.TheVariants.{Down, Up}
use Rattle.gate_io.specs.declared.event.What.{What}
use Rattle.gate_io.specs.declared.event.What.TheVariants as whats
use Rattle.header_maps.specs.Headers.{Headers}
use Rattle.header_maps.specs.Operations.{no_headers}
use Rattle.h1_model.specs.Framing.{no_body, head_wire}
use Rattle.h1_model.specs.Head.{Head}
use Rattle.h1_model.specs.LocalReply.{local_reply_of}
use Rattle.h1_model.specs.Messages.{Stop, rest, over, refusal}
use Rattle.h1_model.specs.Unread.{Part, head_part, interim_part, piece, trailer_part, Reading, new_reading, reading_with_bytes, reading_with_end}
use Rattle.store_model.specs.Program.{Program}
use Rattle.store_model.specs.declared.call.Call.TheVariants as calls
use Rattle.store_model.specs.declared.call.Reply.{Reply}
use Rattle.store_model.specs.declared.call.Reply.TheVariants as replies
use Rattle.worker_model.specs.declared.types.Asked.{Asked}
use Rattle.worker_model.specs.declared.types.Bodies.{Bodies}
use Rattle.worker_model.specs.declared.types.ContextAt.{ContextAt}
use Rattle.worker_model.specs.declared.types.Job.{Job}
use Rattle.worker_model.specs.declared.types.Job.TheVariants as jobs
use Rattle.worker_model.specs.declared.types.Line.{Line}
use Rattle.worker_model.specs.declared.types.Next.{Next}
use Rattle.worker_model.specs.declared.types.Next.TheVariants as next
use Rattle.worker_model.specs.declared.types.NewContext.{NewContext}
use Rattle.worker_model.specs.declared.types.OtherStep.{OtherStep}
use Rattle.worker_model.specs.declared.types.OtherStep.TheVariants as others
use Rattle.worker_model.specs.declared.types.Owner.{Owner}
use Rattle.worker_model.specs.declared.types.Owner.TheVariants.{Nobody, Stage}
use Rattle.worker_model.specs.declared.types.ReadBatch.{ReadBatch}
use Rattle.worker_model.specs.Plan.{Plan}
use Rattle.worker_model.specs.Room.{Room}
use Rattle.worker_model.specs.Calls.{take_call_event, take_call_heard, answer_if, put_call_answer, has_listener, close_call}
use Rattle.worker_model.specs.Moves.{asks_at, ended_at}
use Rattle.worker_model.specs.Rooms.{Changes, all_lines, place_in, with_lines, on_number, with_contexts, room_with_sent, is_dead, lose_vm_in, take_callback_end, value_of_end}

-- the machines, and the rest
pub record Both (H : Type 0) : Type 0 where
  pub host : H
  pub room : Room

abbrev pub both : {H : Type 0} → H → Room → Both H
both host room = record { host = host; room = room }

-- ---- a callback

-- what a callback returned, if it did, and what everything is then
pub record Answered (H : Type 0) : Type 0 where
  pub value : Option (Option ℕ)
  pub both : Both H

abbrev pub callback_result : {H : Type 0} → Option (Option ℕ) → Both H → Answered H
callback_result value b = record { value = value; both = b }

-- what comes after it
abbrev pub Then : Type 0
Then = Option (Option ℕ) → Room → Room

abbrev pub continue_with : {H : Type 0} → Then → Answered H → Both H
continue_with behind a = both a.both.host (behind a.value a.both.room)

abbrev pub nothing_more : Then
nothing_more value room = room

module _ {H : Type 0} (calling : H → ℕ → Callback → ℕ → ℕ → ℕ → ℕ → Contexts → Program (Called H)) where
  -- EVERY CALLBACK: it writes into the log; its effects are done then, or its VM is dead
  abbrev pub called_in : ℕ → Callback → ℕ → ℕ → ℕ → Owner → H → Room → Course (Answered H)
  called_in vm name context first second own host room =
      runs_then (calling host vm name context first second room.hub.moment room.hub.contexts)
      (λ c. ends (callback_result (value_of_end c.end) (both c.host (take_callback_end vm own c.end c.lines c.contexts room))))

  -- no callback comes of a VM that died
  abbrev pub called_live : ℕ → Callback → ℕ → ℕ → ℕ → H → Room → Course (Answered H)
  called_live vm name context first second host room =
      if is_dead vm room then ends (callback_result None (both host room)) else called_in vm name context first second Nobody host room

  abbrev pub calls_live : ℕ → Callback → ℕ → ℕ → ℕ → Then → H → Room → Course (Both H)
  calls_live vm name context first second behind host room =
      then_do (called_live vm name context first second host room) (λ a. ends (continue_with behind a))

-- ---- values that callbacks return; a callback that is missing counts as Continue, and as 1

abbrev pub is_zero : Option ℕ → Bool
is_zero None = false
is_zero (Some value) = value == 0

abbrev pub action_of : Option ℕ → ℕ
action_of None = 0
action_of (Some value) = value

-- ---- what comes behind callbacks

abbrev pub with_jobs_first : List Job → Room → Room
with_jobs_first more room = record room { jobs = more ++ room.jobs }

-- the VM is dead where it answered 0
abbrev pub unless_zero : ℕ → Death → Then
unless_zero vm death None room = room
unless_zero vm death (Some value) room = if is_zero value then lose_vm_in vm death room else room

-- a context that is done with gets log and delete; where its `done` answered 0, it waits for `proxy_done` first
abbrev pub has_vm : ℕ → Contexts → Bool
has_vm vm h = nat_lt vm (length h.vms)

abbrev pub await_done : ContextAt → Room → Room
await_done c room =
    if has_vm c.vm room.hub.contexts
    then with_contexts (await_done_of c.vm c.context room.hub.contexts) (record room { waits = room.waits ++ c ∷ [] })
    else room

abbrev pub last_jobs : ContextAt → List Job
last_jobs c = jobs.Log c ∷ jobs.Delete c ∷ []

abbrev pub finish_context : ContextAt → Then
finish_context c None room = with_jobs_first (last_jobs c) room
finish_context c (Some value) room = if is_zero value then await_done c room else with_jobs_first (last_jobs c) room

abbrev pub delete_context : ContextAt → Then
delete_context c value room =
    if has_vm c.vm room.hub.contexts && contains c.context (seen room.hub.contexts c.vm).common.ids
    then with_contexts (delete_id c.vm c.context room.hub.contexts) room else room

-- the action of a callback of a stage is put in force
abbrev pub apply_stage_action : Asked → Then
apply_stage_action a None room = room
apply_stage_action a (Some value) room = on_number (apply_action a.response a.ask.stage (action_of value)) a.line room

-- ---- roots and streams

abbrev pub is_drawn_out : ℕ → Contexts → Bool
is_drawn_out vm h = (vm_in h vm).last == 4294967295

abbrev pub may_root : ℕ → ℕ → Contexts → Bool
may_root vm plugin h = ((has_vm vm h && nat_le plugin 65535) && nat_lt plugin (length h.plugins)) && (plugin_in h plugin).vm == vm

-- what comes after the making of a root: the first one of a VM is where the VM starts
abbrev pub root_jobs : ℕ → ℕ → ℕ → Bool → List Job
root_jobs vm root plugin true = jobs.Start vm root ∷ jobs.Configure vm root plugin ∷ []
root_jobs vm root plugin false = jobs.Configure vm root plugin ∷ []

abbrev pub new_one : ℕ → ℕ → ℕ → NewContext
new_one vm context root = record { vm = vm; context = context; root = root }

-- THE ROOT OF A PLUG-IN is made; where no id is left, the VM is dead
abbrev pub create_root : ℕ → ℕ → Bool → Room → Option NewContext × Room
create_root vm plugin first room =
    if is_dead vm room || not (may_root vm plugin room.hub.contexts) then (None, room)
    else if is_drawn_out vm room.hub.contexts then (None, lose_vm_in vm deaths.Ids room)
    else (
      Some (new_one vm (next_id room.hub.contexts vm) 0),
      with_jobs_first (root_jobs vm (next_id room.hub.contexts vm) plugin first) (with_contexts (root_created vm plugin room.hub.contexts) room),
    )

abbrev pub with_filter : ℕ → Filter → Exchange → Exchange
with_filter k f x = record x { filters = slice_set x.filters k f }

abbrev pub change_exchange : (Exchange → Exchange) → Line → Option Exchange → Line
change_exchange change line None = line
change_exchange change line (Some x) = record line { exchange = Some (change x) }

abbrev pub change_line : (Exchange → Exchange) → Line → Line
change_line change line = change_exchange change line line.exchange

abbrev pub line_at : (Line → Line) → List Line → ℕ → Option Line → List Line
line_at change lines place None = lines
line_at change lines place (Some line) = slice_set lines place (change line)

abbrev pub line_at_place : (Line → Line) → List Line → Option ℕ → List Line
line_at_place change lines None = lines
line_at_place change lines (Some place) = line_at change lines place (slice_get lines place)

abbrev pub on_line : (Line → Line) → ℕ → List Line → List Line
on_line change number lines = line_at_place change lines (place_in number lines)

abbrev pub in_place : List Line → Option ℕ → Option Line
in_place lines None = None
in_place lines (Some place) = slice_get lines place

abbrev pub line_in : ℕ → List Line → Option Line
line_in number lines = in_place lines (place_in number lines)

abbrev pub exchange_of_line : Option Line → Option Exchange
exchange_of_line None = None
exchange_of_line (Some line) = line.exchange

abbrev pub exchange_on : ℕ → Room → Option Exchange
exchange_on number room = exchange_of_line (line_in number room.lines)

abbrev pub may_stream : ℕ → ℕ → Contexts → Bool
may_stream vm root h = has_vm vm h && is_root h vm root

abbrev pub with_stream : ℕ → ℕ → Filter → ℕ → Room → Option NewContext × Room
with_stream number k f root room = (
  Some (new_one f.vm (next_id room.hub.contexts f.vm) root),
  record (with_contexts (stream_created f.vm root number room.hub.contexts) room) {
    lines = on_line (change_line (with_filter k (record f { created = true; context = next_id room.hub.contexts f.vm }))) number room.lines;
  },
)

abbrev pub create_stream : ℕ → ℕ → Filter → Option ℕ → Room → Option NewContext × Room
create_stream number k f None room = (None, room)
create_stream number k f (Some root) room =
    if is_dead f.vm room || not (may_stream f.vm root room.hub.contexts) then (None, room)
    else if is_drawn_out f.vm room.hub.contexts then (None, lose_vm_in f.vm deaths.Ids room)
    else with_stream number k f root room

abbrev pub create_filter : ℕ → ℕ → Option Filter → Room → Option NewContext × Room
create_filter number k None room = (None, room)
create_filter number k (Some f) room = create_stream number k f (plugin_in room.hub.contexts f.plugin).root room

abbrev pub open_filter : ℕ → Option Exchange → Option Filter
open_filter k None = None
open_filter k (Some x) = if x.has_ended || x.is_answered then None else slice_get x.filters k

-- the filter at a place of the exchange on a line, unless that has ended or was answered
abbrev pub filter_at : ℕ → ℕ → List Line → Option Filter
filter_at number k lines = open_filter k (exchange_of_line (line_in number lines))

-- THE CONTEXT OF A FILTER is made; where no id is left, the VM is dead
abbrev pub create_context : ℕ → ℕ → Room → Option NewContext × Room
create_context number k room = create_filter number k (filter_at number k room.lines) room

-- ---- the stages of an exchange

abbrev pub is_live : List ℕ → Filter → Bool
is_live dead f = f.created && not (list_any (λ (d : ℕ). d == f.vm) dead)

abbrev pub new_stage : Bool → Filter → chain_stage.Stage
new_stage response f = record { vm = f.vm; context = f.context; response = response; waiting = []; held = held.Nothing; passes = false }

-- The request passes its filters in the order of the route, the response in reverse. One whose VM is dead is skipped.
abbrev pub exchange_with_stages : List ℕ → Exchange → Exchange
exchange_with_stages dead x =
    if x.has_ended || x.is_answered then x
    else record x {
      request = map (new_stage false) (filter (is_live dead) x.filters);
      response = reverse (map (new_stage true) (filter (is_live dead) x.filters));
      is_entered = true;
    }

abbrev pub enter_stages : List ℕ → Changes
enter_stages dead n x hub = (exchange_with_stages dead x, hub)

-- ---- a new exchange

abbrev pub filter_of : ℕ → PluginEntry → Filter
filter_of plugin entry = record { plugin = plugin; vm = entry.vm; fails_open = entry.fail_open; created = false; context = 0 }

abbrev pub filter_at_plugin : List PluginEntry → ℕ → Option Filter
filter_at_plugin plugins plugin = option_map (filter_of plugin) (slice_get plugins plugin)

abbrev pub filters_by : Option Filter → List Filter
filters_by None = []
filters_by (Some f) = f ∷ []

-- the filters of these plug-ins
abbrev pub filters_of : List PluginEntry → List ℕ → List Filter
filters_of plugins [] = []
filters_of plugins (plugin ∷ more) = filters_by (filter_at_plugin plugins plugin) ++ filters_of plugins more

abbrev pub plugins_of : Option RouteEntry → List ℕ
plugins_of None = []
plugins_of (Some route) = route.filters

abbrev pub plugins_at : List RouteEntry → Option ℕ → List ℕ
plugins_at routes None = []
plugins_at routes (Some place) = plugins_of (slice_get routes place)

abbrev pub requests_at : Option Bodies → Bool
requests_at None = false
requests_at (Some b) = b.requests

abbrev pub responses_at : Option Bodies → Bool
responses_at None = false
responses_at (Some b) = b.responses

-- a plug-in among these filters the bodies of requests, of responses, dead ones and those that are not reached included
abbrev pub filters_requests : List Bodies → List ℕ → Bool
filters_requests bodies plugins = list_any (λ (p : ℕ). requests_at (slice_get bodies p)) plugins

abbrev pub filters_responses : List Bodies → List ℕ → Bool
filters_responses bodies plugins = list_any (λ (p : ℕ). responses_at (slice_get bodies p)) plugins

abbrev pub is_gone : List ℕ → Filter → Bool
is_gone dead f = list_any (λ (d : ℕ). d == f.vm) dead

-- its VM is dead, and it lets nothing pass then
abbrev pub is_blocking : List ℕ → Filter → Bool
is_blocking dead f = not f.fails_open && is_gone dead f

-- what is refused before any filter sees it: 404 where no route takes it, and then 503 where a VM is dead whose plug-in lets nothing pass
abbrev pub refusal_of : Option ℕ → List ℕ → List Filter → Option ℕ
refusal_of None dead filters = Some 404
refusal_of (Some route) dead filters = if list_any (is_blocking dead) filters then Some 503 else None

-- milliseconds after a moment, in nanoseconds and at most 2^64 - 1
abbrev pub at_most_last : ℕ → ℕ
at_most_last moment = if nat_le moment 18446744073709551615 then moment else 18446744073709551615

abbrev pub due_at : ℕ → ℕ → Option ℕ
due_at now deadline = if deadline == 0 then None else Some (at_most_last (now + deadline * 1000000))

abbrev pub new_exchange : Plan → ℕ → ℕ → List ℕ → Head → Option ℕ → List ℕ → List Filter → Exchange
new_exchange plan place now dead h route plugins filters = record {
  place = place;
  filters = filter (λ (f : Filter). not (is_gone dead f)) filters;
  request = [];
  response = [];
  filters_requests = filters_requests plan.bodies plugins;
  filters_responses = filters_responses plan.bodies plugins;
  asked = request_of h;
  told = response_of false h;
  out = None;
  reader = None;
  due = due_at now plan.deadline;
  refusal = refusal_of route dead filters;
  is_head_up = false;
  connection_up = [];
  connection_down = [];
  is_read = false;
  is_entered = false;
  is_headed = false;
  is_answered = false;
  is_head_out = false;
  has_ended = false;
  stays = false;
  closes = false;
}

abbrev pub with_exchange : Exchange → Line → Line
with_exchange x line = record line { exchange = Some x }

abbrev pub exchange_for : Plan → ℕ → ℕ → List ℕ → Head → Option ℕ → Exchange
exchange_for plan place now dead h route =
    new_exchange plan place now dead h route (plugins_at plan.routes route) (filters_of plan.plugins (plugins_at plan.routes route))

abbrev pub free_place : Contexts → ℕ
free_place h = place_or (length h.exchanges) (position is_none h.exchanges)

-- AN EXCHANGE BEGINS with the head of its request
abbrev pub begin_exchange_on : Plan → ℕ → Head → Room → Room
begin_exchange_on plan number h room = record (with_contexts (open_exchange number h.fields room.hub.contexts) room) {
  lines = on_line (with_exchange (exchange_for plan (free_place room.hub.contexts) room.hub.moment room.dead h (route_in plan.routes (path_of h.fields)))) number room.lines;
}

-- ---- reading

abbrev pub exchange_reading : Option Exchange → Option Reading
exchange_reading None = None
exchange_reading (Some x) = x.reader

abbrev pub line_reading : Bool → Option Line → Option Reading
line_reading up None = None
line_reading false (Some line) = Some line.requests
line_reading true (Some line) = exchange_reading line.exchange

abbrev pub reading_on : ReadBatch → Room → Option Reading
reading_on r room = line_reading r.up (line_in r.line room.lines)

-- the reader is this now
abbrev pub with_reader : Reading → Exchange → Exchange
with_reader reading x = record x { reader = Some reading }

abbrev pub read_on : Bool → Reading → Line → Line
read_on false reading line = record line { requests = reading }
read_on true reading line = change_line (with_reader reading) line

abbrev pub is_last : ChainItem → Bool
is_last (items.Head end) = end
is_last (items.Piece bytes end) = end
is_last items.Trailers = true

-- of what was read, what is kept of it
abbrev pub with_read_mark : Bool → ChainItem → Exchange → Exchange
with_read_mark false item x = record x { asked = record x.asked { whole = is_last item } }
with_read_mark true item x = record x { is_read = is_last item }

abbrev pub on_lines : (Line → Line) → ℕ → Room → Room
on_lines change number room = record room { lines = on_line change number room.lines }

-- ---- THE READING ENDS. What was read comes to the chain; after a request's head the contexts are made first, and then the stages, or it is
-- refused at once. A refusal of what was read comes behind.

abbrev pub create_jobs : ℕ → ℕ → List Job
create_jobs number zero = []
create_jobs number (suc k) = create_jobs number k ++ jobs.Create number k ∷ []

abbrev pub begins_with_head : List ChainItem → Bool
begins_with_head [] = false
begins_with_head (items.Head end ∷ more) = true
begins_with_head (items.Piece bytes end ∷ more) = false
begins_with_head (items.Trailers ∷ more) = false

abbrev pub refuse_jobs : ℕ → Option ℕ → List Job
refuse_jobs number None = []
refuse_jobs number (Some status) = jobs.Refuse number status ∷ []

abbrev pub put_jobs : ℕ → Bool → List ChainItem → List Job
put_jobs number response [] = []
put_jobs number response (item ∷ more) = jobs.Put number response (item ∷ more) ∷ []

abbrev pub exchange_jobs : ReadBatch → Option ℕ → Exchange → Option ℕ → List Job
exchange_jobs r status x (Some number) = jobs.Refuse r.line number ∷ []
exchange_jobs r status x None =
    create_jobs r.line (length x.filters) ++ (jobs.Enter r.line ∷ (put_jobs r.line false r.batch ++ refuse_jobs r.line status))

abbrev pub begin_jobs_for : ReadBatch → Option ℕ → Option Exchange → List Job
begin_jobs_for r status None = []
begin_jobs_for r status (Some x) = exchange_jobs r status x x.refusal

abbrev pub jobs_of : ReadBatch → Option ℕ → Room → List Job
jobs_of r status room =
    if begins_with_head r.batch && not r.up then begin_jobs_for r status (exchange_on r.line room)
    else put_jobs r.line r.up r.batch ++ refuse_jobs r.line status

abbrev pub end_reading : ReadBatch → Option ℕ → Room → Room
end_reading r status room = record room { reading = None; jobs = jobs_of r status room ++ room.jobs }

abbrev pub with_item : ChainItem → ReadBatch → ReadBatch
with_item item r = record r { batch = r.batch ++ item ∷ [] }

-- an item joins what was read; the reading ends with the last one of a message
abbrev pub add_read_item : ReadBatch → ChainItem → Room → Room
add_read_item r item room =
    if is_last item then end_reading (with_item item r) None room else record room { reading = Some (with_item item r) }

abbrev pub take_read_item : ReadBatch → ChainItem → Room → Room
take_read_item r item room = add_read_item r item (on_lines (change_line (with_read_mark r.up item)) r.line room)

-- ---- what a reader hands on

abbrev pub with_response_head : Head → Exchange → Exchange
with_response_head h x = record x { told = response_of x.is_head_up h; is_headed = true }

abbrev pub in_contexts : (ℕ → Contexts → Contexts) → Option Exchange → Room → Room
in_contexts change None room = room
in_contexts change (Some x) room = with_contexts (change x.place room.hub.contexts) room

abbrev pub head_item : Head → ChainItem
head_item h = items.Head (is_bare (length_in h.length))

-- an interim head goes down at once, but not to a client of HTTP/1.0 (RFC 9110, section 15.2)
abbrev pub interim_of : Option Exchange → Head → List ℕ
interim_of None h = []
interim_of (Some x) h = if x.asked.old_client then [] else head_wire no_body (sent_head h.fields [])

abbrev pub put_trailers : (up : Bool) → Headers → ℕ → Contexts → Contexts
put_trailers false map place h = put_request_trailers map place h
put_trailers true map place h = put_response_trailers map place h

abbrev pub take_interim : ReadBatch → Head → Room → Room
take_interim r h room = record (room_with_sent (sending_to r.line Down (interim_of (exchange_on r.line room) h)) room) { reading = Some r }

abbrev pub take_part : Plan → ReadBatch → Part → Room → Room
take_part plan r (head_part h) room =
    if r.up
    then take_read_item r (head_item h) (on_lines (change_line (with_response_head h)) r.line (in_contexts (put_response h.fields) (exchange_on r.line room) room))
    else take_read_item r (head_item h) (begin_exchange_on plan r.line h room)
take_part plan r (interim_part h) room = take_interim r h room
take_part plan r (piece bytes last) room = take_read_item r (items.Piece bytes last) room
take_part plan r (trailer_part fields) room =
    take_read_item r items.Trailers (in_contexts (put_trailers r.up (with_fields no_headers fields)) (exchange_on r.line room) room)

-- nothing more is handed on: as yet; the text is over, so that the line is closed where no exchange is open; or it is refused
abbrev pub end_of_read : ReadBatch → Stop → Room → Room
end_of_read r rest room = end_reading r None room
end_of_read r over room =
    if r.up || is_some (exchange_on r.line room) then end_reading r None room
    else with_jobs_first (jobs.Close r.line false ∷ []) (end_reading r None room)
end_of_read r (refusal status) room = end_reading r (Some status) room

abbrev pub after_heard : Plan → ReadBatch → Heard → Room → Room
after_heard plan r (hands part new) room = take_part plan r part (on_lines (read_on r.up new) r.line room)
after_heard plan r (halts why new) room = end_of_read r why (on_lines (read_on r.up new) r.line room)

-- ---- lines come and go

abbrev pub without_place : List Line → Option ℕ → List Line
without_place lines None = lines
without_place lines (Some place) = remove lines place

-- a line is there no more
abbrev pub drop_line : ℕ → Room → Room
drop_line number room = record room { lines = without_place room.lines (place_in number room.lines) }

-- a line is closed
abbrev pub close_line : ℕ → Room → Room
close_line number room = room_with_sent (to.Close number Down ∷ []) (drop_line number room)

abbrev pub read_side : ℕ → Bool → Room → Room
read_side number up room = record room { reading = Some (record { line = number; up = up; batch = [] }) }

-- after an exchange: its client is gone; the line is closed; or what is unread of it is read
abbrev pub end_line : Option Line → ℕ → Bool → Room → Room
end_line None number stays room = room
end_line (Some line) number stays room =
    if line.is_gone then drop_line number room else if stays then read_side number false room else close_line number room

-- an answer where there is no exchange: what came is no request
abbrev pub fixed_answer : ℕ → ℕ → List ℕ
fixed_answer status now = local_reply_of status [] [] false true now

abbrev pub refusal_sent : ℕ → ℕ → Room → Room
refusal_sent number status room = if is_final status then room_with_sent (sending_to number Down (fixed_answer status room.hub.moment)) room else room

abbrev pub refuse_in : ℕ → ℕ → Option Exchange → Room → Room
refuse_in number status (Some x) room = on_number (refuse_exchange status) number room
refuse_in number status None room = close_line number (refusal_sent number status room)

abbrev pub refuse_line : Option Line → ℕ → ℕ → Room → Room
refuse_line None number status room = room
refuse_line (Some line) number status room = refuse_in number status line.exchange room

-- ---- WHAT HAPPENS

-- so many lines are open at most
abbrev pub most_lines : ℕ
most_lines = 128

abbrev pub new_line : ℕ → Line
new_line number = record { number = number; requests = new_reading None; is_gone = false; exchange = None }

-- the place of a new line: after those of lower numbers
abbrev pub place_for : ℕ → List Line → ℕ
place_for number lines = position_or_len (λ (line : Line). nat_lt number line.number) lines

-- A connection was opened. Of an open line that changes nothing. Where there is no room for a line, it is closed at once.
abbrev pub accept_line : ℕ → Room → Room
accept_line number room =
    if is_some (place_in number room.lines) then room
    else if nat_lt (length room.lines) most_lines then record room { lines = insert room.lines (place_for number room.lines) (new_line number) }
    else room_with_sent (to.Close number Down ∷ []) room

-- a text has more, or has ended; of one that has ended nothing comes any more
abbrev pub reading_with_more : (stops_now : Bool) → List ℕ → Reading → Reading
reading_with_more stops_now bytes reading = if reading.ended then reading else if stops_now then reading_with_end reading else reading_with_bytes bytes reading

abbrev pub response_with_more : (stops_now : Bool) → List ℕ → Option Reading → Option Reading
response_with_more stops_now bytes None = None
response_with_more stops_now bytes (Some reading) = Some (reading_with_more stops_now bytes reading)

abbrev pub with_further : (stops_now : Bool) → List ℕ → Exchange → Exchange
with_further stops_now bytes x = record x { reader = response_with_more stops_now bytes x.reader }

-- the same of a side of a line
abbrev pub side_with_more : (up stops_now : Bool) → List ℕ → Line → Line
side_with_more false stops_now bytes line = record line { requests = reading_with_more stops_now bytes line.requests }
side_with_more true stops_now bytes line = change_line (with_further stops_now bytes) line

-- what comes from a client is read where no exchange is open, and of one whose request's end has not been read; what comes from a server is
-- read unless its exchange was answered
abbrev pub is_open : Option Reading → Bool
is_open None = false
is_open (Some reading) = not reading.ended

abbrev pub is_answered_in : Option Exchange → Bool
is_answered_in None = false
is_answered_in (Some x) = x.is_answered

abbrev pub is_read_in : (up : Bool) → Option Exchange → Bool
is_read_in up None = not up
is_read_in false (Some x) = not x.is_answered && not x.asked.whole
is_read_in true (Some x) = not x.is_answered

abbrev pub receive_on : (up stops_now : Bool) → List ℕ → ℕ → Option Line → Room → Room
receive_on up stops_now bytes number line room =
    if is_open (line_reading up line) && not (up && is_answered_in (exchange_of_line line))
    then (if is_read_in up (exchange_of_line line) then read_side number up (on_lines (side_with_more up stops_now bytes) number room)
    else on_lines (side_with_more up stops_now bytes) number room)
    else room

-- A SIDE OF A LINE has more, or has ended. What comes of a side that has ended, or from where there is no connection, is not looked at.
abbrev pub receive : (up stops_now : Bool) → List ℕ → ℕ → Room → Room
receive up stops_now bytes number room = receive_on up stops_now bytes number (line_in number room.lines) room

-- the client's connection is gone: the exchange ends, and then the line, to which nothing is sent any more
abbrev pub exchange_without_client : Exchange → Exchange
exchange_without_client x = record x { has_ended = true; stays = false }

abbrev pub line_without_client : Line → Line
line_without_client line = record (change_line exchange_without_client line) { is_gone = true }

abbrev pub lose_client : ℕ → Option Line → Room → Room
lose_client number None room = room
lose_client number (Some line) room = if is_some line.exchange then on_lines line_without_client number room else drop_line number room

abbrev pub is_missed : Option Exchange → Bool
is_missed None = false
is_missed (Some x) = is_some x.reader && not (x.is_read || x.is_answered)

-- the server's connection is gone, or was refused: there is no whole response (502), unless it was read
abbrev pub lose_server : ℕ → Option Exchange → Room → Room
lose_server number o room = if is_missed o then on_number (refuse_exchange 502) number room else room

abbrev pub take_event : What → Room → Room
take_event (whats.Opened number) room = accept_line number room
take_event (whats.Bytes number Down bytes) room = receive false false bytes number room
take_event (whats.Bytes number Up bytes) room = receive true false bytes number room
take_event (whats.End number Down) room = receive false true [] number room
take_event (whats.End number Up) room = receive true true [] number room
take_event (whats.Gone number Down) room = lose_client number (line_in number room.lines) room
take_event (whats.Gone number Up) room = lose_server number (exchange_on number room) room
take_event (whats.Joined number) room = room
take_event (whats.Refused number) room = lose_server number (exchange_on number room) room
take_event (whats.Room number side) room = room
take_event whats.Clock room = room
take_event whats.Stop room = room

-- ---- THE END OF AN EXCHANGE: the connection up is closed; what its stages still hold is dropped; its contexts are done with; and then comes the
-- line

abbrev pub done_jobs : List Filter → List Job
done_jobs [] = []
done_jobs (f ∷ filters) = if f.created then jobs.Done (record { vm = f.vm; context = f.context }) ∷ done_jobs filters else done_jobs filters

abbrev pub close_up : ℕ → Option Reading → List Sent
close_up number None = []
close_up number (Some reading) = to.Close number Up ∷ []

abbrev pub end_exchange_of : Option (ℕ × Exchange) → Room → Room
end_exchange_of None room = room
end_exchange_of (Some (number, x)) room =
    with_jobs_first (done_jobs x.filters ++ jobs.Close number x.stays ∷ [])
    (with_contexts (end_exchange x.place (none_held x room.hub).contexts) (room_with_sent (close_up number x.reader) room))

abbrev pub end_with : Room → Option (ℕ × Exchange) × List Line → Room
end_with room (x, lines) = end_exchange_of x (record room { lines = lines })

abbrev pub end_at : ℕ → Room → Room
end_at place room = end_with room (ended_at place (slice_get room.lines place) room.lines)

-- ---- ticks, deadlines, notices

abbrev pub is_due_tick : ℕ → Tick → Bool
is_due_tick now t = nat_le t.due now

abbrev pub next_tick : ℕ → Tick → Tick
next_tick now t = record { period = t.period; due = at_most_last (now + t.period) }

-- the tick is due again, one period from now
abbrev pub with_tick : ℕ → ℕ → Tick → Contexts → Contexts
with_tick vm root t h = put (record no_changes { tick = Some (Some t) }) vm (put (record no_changes { effective = Some root }) vm h)

abbrev pub tick_of : ℕ → ℕ → Option (Option Tick) → Room → Bool × Room
tick_of vm root None room = (false, room)
tick_of vm root (Some None) room = (false, room)
tick_of vm root (Some (Some t)) room =
    if is_due_tick room.hub.moment t && has_vm vm room.hub.contexts
    then (true, with_contexts (with_tick vm root (next_tick room.hub.moment t) room.hub.contexts) room)
    else (false, room)

-- whether a root is due, and what becomes of it then
abbrev pub tick_root : ℕ → ℕ → Room → Bool × Room
tick_root vm root room = tick_of vm root (tick_in (vm_in room.hub.contexts vm).contexts root) room

abbrev pub is_late_in : ℕ → Option Exchange → Bool
is_late_in now None = false
is_late_in now (Some x) = is_due now x

abbrev pub is_late : ℕ → Line → Bool
is_late now line = is_late_in now line.exchange

-- responses that are due are answered for, lines rising
abbrev pub expire_all : Room → Room
expire_all room =
    if list_any (is_late room.hub.moment) room.lines then with_lines room (all_lines expire_exchange room.lines room.hub) else room

-- these come next among the parts of the turn
abbrev pub with_agenda_first : List Job → Room → Room
with_agenda_first more room = record room { agenda = more ++ room.agenda }

-- A notice was taken: its root is told. Once all that comes of it is at rest, ends among it, the next notice is taken.
abbrev pub take_notice_reply : ℕ → ℕ → Reply → Room → Room
take_notice_reply vm left (replies.Owed root queue) room = with_jobs_first (jobs.Ready vm root queue ∷ []) (with_agenda_first (jobs.Notice vm (left - 1) ∷ []) room)
take_notice_reply vm left replies.Absent room = room
take_notice_reply vm left (replies.Value value number) room = room
take_notice_reply vm left (replies.Done number) room = room
take_notice_reply vm left replies.CasMismatch room = room
take_notice_reply vm left replies.Full room = room
take_notice_reply vm left (replies.Id queue) room = room
take_notice_reply vm left (replies.Item item) room = room
take_notice_reply vm left replies.Empty room = room
take_notice_reply vm left replies.NoneOwed room = room

-- ---- the steps

abbrev pub begin_first_job : List Job → Room → Room
begin_first_job [] room = room
begin_first_job (job ∷ later) room = record room { jobs = job ∷ []; agenda = later }

abbrev pub release_at : ℕ → Option ContextAt → Room → Room
release_at at None room = room
release_at at (Some c) room = record room { jobs = last_jobs c ++ room.jobs; waits = remove room.waits at }

abbrev pub release : ℕ → Room → Room
release at room = release_at at (slice_get room.waits at) room

-- the jobs that call nothing
abbrev pub run_silent_job : Job → Room → Room
run_silent_job (jobs.Begin vm) room = room
run_silent_job (jobs.Root vm plugin first) room = room
run_silent_job (jobs.Start vm root) room = room
run_silent_job (jobs.Configure vm root plugin) room = room
run_silent_job (jobs.Tick vm root) room = room
run_silent_job jobs.Expire room = expire_all room
run_silent_job (jobs.Happen what) room = take_event what room
run_silent_job (jobs.Create number k) room = room
run_silent_job (jobs.Enter number) room = on_number (enter_stages room.dead) number room
run_silent_job (jobs.Put number response items) room = on_number (put_read_items response items) number room
run_silent_job (jobs.Refuse number status) room = refuse_line (line_in number room.lines) number status room
run_silent_job (jobs.Done c) room = room
run_silent_job (jobs.Log c) room = room
run_silent_job (jobs.Delete c) room = room
run_silent_job (jobs.Close number stays) room = end_line (line_in number room.lines) number stays room
run_silent_job (jobs.Notice vm left) room = room
run_silent_job (jobs.Ready vm root queue) room = room
run_silent_job (jobs.Other step) room = room

-- ---- what a reading does

abbrev pub ReadSo : Plan → ReadBatch → Option Reading → Room → Room → Type 0
ReadSo plan r None old new = new ≡ record old { reading = None }
ReadSo plan r (Some reading) old new = (h : Heard) × Hears reading h × (new ≡ after_heard plan r h (record old { reading = None }))

abbrev pub ReadOn : Plan → Option ReadBatch → Room → Room → Type 0
ReadOn plan None old new = new ≡ old
ReadOn plan (Some r) old new = ReadSo plan r (reading_on r old) old new

abbrev pub reads_in : {H : Type 0} → Plan → ReadBatch → Option Reading → H → Room → Course (Both H)
reads_in plan r None host room = ends (both host (record room { reading = None }))
reads_in plan r (Some reading) host room = hears reading (λ h. ends (both host (after_heard plan r h (record room { reading = None }))))

abbrev pub reads_next : {H : Type 0} → Plan → Option ReadBatch → H → Room → Course (Both H)
reads_next plan None host room = ends (both host room)
reads_next plan (Some r) host room = reads_in plan r (reading_on r room) host room

-- ---- a move

abbrev pub callback_of : Bool → AskKind → Callback
callback_of false kinds.Head = callbacks.RequestHeaders
callback_of false kinds.Piece = callbacks.RequestBody
callback_of false kinds.Trailers = callbacks.RequestTrailers
callback_of true kinds.Head = callbacks.ResponseHeaders
callback_of true kinds.Piece = callbacks.ResponseBody
callback_of true kinds.Trailers = callbacks.ResponseTrailers

abbrev pub number_of : Bool → ℕ
number_of true = 1
number_of false = 0

-- the length of a configuration
abbrev pub vm_length : ℕ → Contexts → ℕ
vm_length vm h = length (vm_in h vm).configuration

abbrev pub plugin_length : ℕ → Contexts → ℕ
plugin_length plugin h = length (plugin_in h plugin).configuration

module _ {H : Type 0} (calling : H → ℕ → Callback → ℕ → ℕ → ℕ → ℕ → Contexts → Program (Called H)) where
  abbrev pub moved : Option Asked → H → Room → Course (Both H)
  moved None host room = ends (both host room)
  moved (Some a) host room =
      then_do (called_in calling a.vm (callback_of a.response a.ask.kind) a.context a.count (number_of a.ask.end) (Stage a.context a.response) host room)
      (λ b. ends (continue_with (apply_stage_action a) b))

  abbrev pub moved_with : H → Room → Option Asked × List Line × Hub → Course (Both H)
  moved_with host room (a, lines, hub) = moved a host (with_lines room (lines, hub))

  -- A MOVE: the stage is asked, its effects are done, and its action is put in force
  abbrev pub move_at : ℕ → H → Room → Course (Both H)
  move_at place host room = moved_with host room (asks_at place (slice_get room.lines place) room.lines room.hub)

  -- ---- the job in hand

  -- a callback whose answer says nothing
  abbrev pub tells : ℕ → Callback → ℕ → ℕ → H → Room → Course (Both H)
  tells vm name context first host room = calls_live calling vm name context first 0 nothing_more host room

  -- one after which the VM is dead where it answered 0
  abbrev pub starts : ℕ → Callback → ℕ → ℕ → Death → H → Room → Course (Both H)
  starts vm name root size death host room = calls_live calling vm name root size 0 (unless_zero vm death) host room

  abbrev pub finishes : ContextAt → H → Room → Course (Both H)
  finishes c host room = calls_live calling c.vm callbacks.Done c.context 0 0 (finish_context c) host room

  abbrev pub forgets : ContextAt → H → Room → Course (Both H)
  forgets c host room = calls_live calling c.vm callbacks.Delete c.context 0 0 (delete_context c) host room

  -- the context that was made is told of its making, and of its root
  abbrev pub made_one : Option NewContext → H → Room → Course (Both H)
  made_one None host room = ends (both host room)
  made_one (Some c) host room = tells c.vm callbacks.ContextCreate c.context c.root host room

  abbrev pub made_with : H → Option NewContext × Room → Course (Both H)
  made_with host (c, room) = made_one c host room

  abbrev pub roots : ℕ → ℕ → Bool → H → Room → Course (Both H)
  roots vm plugin first host room = made_with host (create_root vm plugin first room)

  abbrev pub streams : ℕ → ℕ → H → Room → Course (Both H)
  streams number k host room = made_with host (create_context number k room)

  abbrev pub ticks_with : ℕ → ℕ → H → Bool × Room → Course (Both H)
  ticks_with vm root host (due, room) = if due then tells vm callbacks.Tick root 0 host room else ends (both host room)

  abbrev pub ticks : ℕ → ℕ → H → Room → Course (Both H)
  ticks vm root host room = ticks_with vm root host (tick_root vm root room)

  -- a root is told of an item in a queue
  abbrev pub tells_ready : ℕ → ℕ → ℕ → H → Room → Course (Both H)
  tells_ready vm root queue host room =
      if may_stream vm root room.hub.contexts then tells vm callbacks.QueueReady root queue host room else ends (both host room)

  -- what begins a VM, and what ends a context; and what calls nothing
  abbrev pub works_life : Job → H → Room → Course (Both H)
  works_life (jobs.Begin vm) host room = tells vm callbacks.Begin 0 0 host room
  works_life (jobs.Start vm root) host room = starts vm callbacks.VmStart root (vm_length vm room.hub.contexts) deaths.Start host room
  works_life (jobs.Configure vm root plugin) host room = starts vm callbacks.Configure root (plugin_length plugin room.hub.contexts) deaths.Configure host room
  works_life (jobs.Done c) host room = finishes c host room
  works_life (jobs.Log c) host room = tells c.vm callbacks.Log c.context 0 host room
  works_life (jobs.Delete c) host room = forgets c host room
  works_life (jobs.Root vm plugin first) host room = ends (both host (run_silent_job (jobs.Root vm plugin first) room))
  works_life (jobs.Tick vm root) host room = ends (both host (run_silent_job (jobs.Tick vm root) room))
  works_life jobs.Expire host room = ends (both host (run_silent_job jobs.Expire room))
  works_life (jobs.Happen what) host room = ends (both host (run_silent_job (jobs.Happen what) room))
  works_life (jobs.Create number k) host room = ends (both host (run_silent_job (jobs.Create number k) room))
  works_life (jobs.Enter number) host room = ends (both host (run_silent_job (jobs.Enter number) room))
  works_life (jobs.Put number response items) host room = ends (both host (run_silent_job (jobs.Put number response items) room))
  works_life (jobs.Refuse number status) host room = ends (both host (run_silent_job (jobs.Refuse number status) room))
  works_life (jobs.Close number stays) host room = ends (both host (run_silent_job (jobs.Close number stays) room))
  works_life (jobs.Notice vm left) host room = ends (both host (run_silent_job (jobs.Notice vm left) room))
  works_life (jobs.Ready vm root queue) host room = ends (both host (run_silent_job (jobs.Ready vm root queue) room))
  works_life (jobs.Other step) host room = ends (both host (run_silent_job (jobs.Other step) room))

-- ---- callouts

-- the response of the one of an id is read on, by one part
abbrev pub reads_call : {H : Type 0} → ℕ → Option Callout → H → Room → Course (Both H)
reads_call id None host room = ends (both host room)
reads_call id (Some c) host room = hears c.reader (λ h. ends (both host (take_call_heard id c h room)))

-- after it was told, a context has nothing of the answer
abbrev pub drop_answer : (vm e : ℕ) → Then
drop_answer vm e value room = put_call_answer None vm e room

module _ {H : Type 0} (calling : H → ℕ → Callback → ℕ → ℕ → ℕ → ℕ → Contexts → Program (Called H)) where
  -- ITS CONTEXT IS TOLD of the end of a callout, and of the answer, if there is one
  abbrev pub tells_call : Option CallAnswer → Callout → H → Room → Course (Both H)
  tells_call a c host room =
      if has_listener c room
      then calls_live calling c.vm callbacks.CallAnswered c.context c.id 0 (drop_answer c.vm c.context) host (put_call_answer a c.vm c.context room)
      else ends (both host room)

  -- THE CALLOUT OF AN ID WAS ANSWERED, or has failed: first its connection is closed
  abbrev pub ends_call : (is_answered : Bool) → ℕ → Option Callout → H → Room → Course (Both H)
  ends_call is_answered id None host room = ends (both host room)
  ends_call is_answered id (Some c) host room = tells_call (answer_if is_answered c) c host (close_call id room)

  -- A step of a callout is worked.
  abbrev pub works_call : CallStep → H → Room → Course (Both H)
  works_call (steps.Comes what) host room = ends (both host (take_call_event what room))
  works_call (steps.Read id) host room = reads_call id (callout_in id room.calls) host room
  works_call (steps.Fail id) host room = ends_call false id (callout_in id room.calls) host room
  works_call (steps.Answer id) host room = ends_call true id (callout_in id room.calls) host room

  -- for other connections than those of HTTP exchanges
  abbrev pub works_other : OtherStep → H → Room → Course (Both H)
  works_other (others.Call step) host room = works_call step host room
  works_other (others.Tcp step) host room = works_life calling (jobs.Other (others.Tcp step)) host room

abbrev pub ask_notice : {H : Type 0} → ℕ → ℕ → H → Room → Course (Both H)
ask_notice vm left host room = asks vm calls.Notice (λ reply. ends (both host (take_notice_reply vm left reply room)))

-- a VM that registered queues, and is live, takes a notice
abbrev pub notice_step : {H : Type 0} → Plan → ℕ → ℕ → H → Room → Course (Both H)
notice_step plan vm left host room =
    if (left == 0 || is_dead vm room) || not (nat_lt vm plan.vms) then ends (both host room)
    else ask_notice vm left host room

module _ {H : Type 0} (calling : H → ℕ → Callback → ℕ → ℕ → ℕ → ℕ → Contexts → Program (Called H)) (plan : Plan) where
  abbrev pub works : Job → H → Room → Course (Both H)
  works (jobs.Root vm plugin first) host room = roots calling vm plugin first host room
  works (jobs.Create number k) host room = streams calling number k host room
  works (jobs.Tick vm root) host room = ticks calling vm root host room
  works (jobs.Notice vm left) host room = notice_step plan vm left host room
  works (jobs.Ready vm root queue) host room = tells_ready calling vm root queue host room
  works (jobs.Other step) host room = works_other calling step host room
  works (jobs.Begin vm) host room = works_life calling (jobs.Begin vm) host room
  works (jobs.Start vm root) host room = works_life calling (jobs.Start vm root) host room
  works (jobs.Configure vm root plugin) host room = works_life calling (jobs.Configure vm root plugin) host room
  works (jobs.Done c) host room = works_life calling (jobs.Done c) host room
  works (jobs.Log c) host room = works_life calling (jobs.Log c) host room
  works (jobs.Delete c) host room = works_life calling (jobs.Delete c) host room
  works jobs.Expire host room = works_life calling jobs.Expire host room
  works (jobs.Happen what) host room = works_life calling (jobs.Happen what) host room
  works (jobs.Enter number) host room = works_life calling (jobs.Enter number) host room
  works (jobs.Put number response items) host room = works_life calling (jobs.Put number response items) host room
  works (jobs.Refuse number status) host room = works_life calling (jobs.Refuse number status) host room
  works (jobs.Close number stays) host room = works_life calling (jobs.Close number stays) host room

  abbrev pub works_first : List Job → H → Room → Course (Both H)
  works_first [] host room = ends (both host room)
  works_first (job ∷ later) host room = works job host (record room { jobs = later })

  -- THE STEP of what is next
  abbrev pub step : Next → H → Room → Course (Both H)
  step next.Read host room = reads_next plan room.reading host room
  step (next.Move place) host room = move_at calling place host room
  step next.Work host room = works_first room.jobs host room
  step (next.Free at) host room = ends (both host (release at room))
  step (next.End place) host room = ends (both host (end_at place room))
  step next.Begin host room = ends (both host (begin_first_job room.agenda room))
  step next.Rest host room = ends (both host room)
