-- What worked turns begin with: lines, exchanges and contexts of one VM `v`.
use Rattle.std.specs.Prelude.{ℕ, suc, Bool, true, false, List, [], ◌∷◌, ◌++◌, Option, None, codes}
use Rattle.contexts.specs.declared.parts.Contexts.{Contexts}
use Rattle.contexts.specs.Creating.{root_created}
use Rattle.contexts.specs.Making.{no_contexts, with_vm, with_plugin}
use Rattle.exchange.specs.declared.types.Exchange.{Exchange}
use Rattle.exchange.specs.declared.types.Filter.{Filter}
use Rattle.exchange.specs.declared.types.Request.{Request}
use Rattle.exchange.specs.declared.types.Response.{Response}
use Rattle.filter_chain.specs.declared.stage.Stage.{Stage}
use Rattle.filter_chain.specs.declared.item.Held.{Held}
use Rattle.gate_base.specs.declared.level.Level.TheVariants.{Info}
use Rattle.gate_config.specs.declared.entries.PluginEntry.{PluginEntry}
use Rattle.gate_io.specs.declared.event.Event.{Event}
use Rattle.gate_io.specs.declared.event.What.{What}
use Rattle.h1_head.specs.declared.head.Length.TheVariants as lengths
use Rattle.header_maps.specs.Headers.{Headers}
use Rattle.header_maps.specs.Operations.{request_headers}
use Rattle.h1_model.specs.Messages.{rest}
use Rattle.h1_model.specs.Unread.{new_reading, awaiting_bytes}
use Rattle.filter_host.specs.Course.{Met, heard}
use Rattle.filter_host.specs.Heard.{halts}
use Rattle.httparse.specs.Ascii.{crlf_bytes}
use Rattle.worker_model.specs.Plan.{Plan}
use Rattle.worker_model.specs.Steps.{Both, both}
use Rattle.worker_model.specs.Room.{Room}
use Rattle.worker_model.specs.declared.types.Line.{Line}
use Rattle.law_turns.specs.Tables.{Call}

abbrev pub line_of : List ℕ → List ℕ
line_of text = text ++ crlf_bytes

-- the line of the first second
abbrev pub first_date : List ℕ
first_date = line_of (codes "date: Thu, 01 Jan 1970 00:00:00 GMT")

-- `GET / HTTP/1.1`, `Host: a`, all of it read
abbrev pub get_map : Headers
get_map = request_headers (codes "GET") (codes "http") (codes "a") (codes "/")

abbrev pub get : Request
get = record { old_client = false; close = false; is_head = false; minor = 1; length = lengths.Nothing; told = None; whole = true }

abbrev pub no_response : Response
no_response = record { to_head = false; status = None; length = lengths.Nothing; told = None }

-- plug-ins of VM 0 without configurations
abbrev pub plugin : List ℕ → Bool → PluginEntry
plugin name opens = record { name = name; vm = 0; configuration = []; fail_open = opens }

-- VM `v`, and the roots of these plug-ins, from 1 on
abbrev pub with_roots : ℕ → List PluginEntry → Contexts → Contexts
with_roots place [] h = h
with_roots place (p ∷ plugins) h = with_roots (suc place) plugins (root_created 0 place (with_plugin 0 p.name [] h))

abbrev pub contexts_with_roots : List PluginEntry → Contexts
contexts_with_roots plugins = with_roots 0 plugins (with_vm (codes "v") [] (no_contexts Info []))

-- the filter of a plug-in, and its stage
abbrev pub filter_of : ℕ → Bool → ℕ → Filter
filter_of place opens context = record { plugin = place; vm = 0; fails_open = opens; created = true; context = context }

abbrev pub stage : Bool → ℕ → Held → Stage
stage response context what = record { vm = 0; context = context; response = response; waiting = []; held = what; passes = false }

-- an exchange of one filter, at a place among the contexts' exchanges
abbrev pub exchange : ℕ → Filter → Stage → Stage → Exchange
exchange place f request response = record {
  place = place;
  filters = f ∷ [];
  request = request ∷ [];
  response = response ∷ [];
  filters_requests = false;
  filters_responses = false;
  asked = get;
  told = no_response;
  out = None;
  reader = None;
  due = None;
  refusal = None;
  is_head_up = false;
  connection_up = [];
  connection_down = [];
  is_read = false;
  is_entered = true;
  is_headed = false;
  is_answered = false;
  is_head_out = false;
  has_ended = false;
  stays = false;
  closes = false;
}

-- a line of which nothing is unread
abbrev pub line : ℕ → Option Exchange → Line
line number x = record { number = number; requests = new_reading None; is_gone = false; exchange = x }

-- its reader waits for the next request
abbrev pub waits_on : Met
waits_on = heard (halts rest (awaiting_bytes (new_reading None)))

-- a worker that has begun, and is at rest
abbrev pub room : List Line → Contexts → Room
room lines h = record {
  lines = lines;
  hub = record { moment = 0; contexts = h; sent = [] };
  reading = None;
  jobs = [];
  agenda = [];
  waits = [];
  dead = [];
  is_begun = true;
  calls = [];
  tcp = [];
}

-- nothing was called so far
abbrev pub state : List Line → Contexts → Both (List Call)
state lines h = both [] (room lines h)

abbrev pub event : ℕ → What → Event
event now what = record { now = now; what = what }

abbrev pub plan_of : List PluginEntry → Plan
plan_of plugins = record { routes = []; plugins = plugins; vms = 1; deadline = 0; bodies = []; registers = []; tcp = [] }

-- ---- a worker without filters

-- every path has a route, which has none
abbrev pub open_plan : Plan
open_plan = record (plan_of []) { routes = record { path = codes "/"; filters = [] } ∷ [] }

-- line 1 is open, and nothing came of it
abbrev pub one_line : Both (List Call)
one_line = state (line 1 None ∷ []) (contexts_with_roots [])

-- the first lines of a request as it goes up, and those after its framing
abbrev pub up_start : List ℕ → List ℕ
up_start method = line_of (method ++ codes " / HTTP/1.1") ++ line_of (codes "host: a")

abbrev pub up_end : List ℕ → List ℕ
up_end version = line_of (codes "via: " ++ version ++ codes " wasmgate") ++ line_of (codes "connection: close") ++ line_of []

-- the line that closes the client's
abbrev pub closing : List ℕ
closing = line_of (codes "connection: close")
