-- WHAT IS LEFT TO DO, in worked rooms, step by step.
use Rattle.std.specs.Prelude.{◌≡◌, ℕ, Bool, true, false, List, [], ◌∷◌, Option, None, Some, codes}
use Rattle.contexts.specs.Making.{no_contexts, with_vm}
use Rattle.contexts.specs.declared.parts.Contexts.{Contexts}
use Rattle.filter_host.specs.Called.{Called, called_back}
use Rattle.filter_host.specs.Course.{Course, ends, asks, measures, hears}
use Rattle.filter_host.specs.declared.host.CallbackEnd.TheVariants.{Returned}
use Rattle.filter_host.specs.declared.host.Callback.{Callback}
use Rattle.exchange.specs.declared.types.Exchange.{Exchange}
use Rattle.exchange.specs.declared.types.Request.{Request}
use Rattle.exchange.specs.declared.types.Response.{Response}
use Rattle.filter_chain.specs.declared.item.Held.{Held}
use Rattle.filter_chain.specs.declared.item.Held.TheVariants as held
use Rattle.filter_chain.specs.declared.item.ChainItem.TheVariants.{Head, Piece}
use Rattle.filter_chain.specs.declared.stage.Stage.{Stage}
use Rattle.gate_base.specs.declared.level.Level.TheVariants.{Info}
use Rattle.gate_io.specs.declared.event.Event.{Event}
use Rattle.gate_io.specs.declared.event.Side.TheVariants.{Down}
use Rattle.gate_io.specs.declared.event.What.TheVariants.{Bytes}
use Rattle.h1_head.specs.declared.head.Length.TheVariants as lengths
use Rattle.header_maps.specs.Operations.{request_headers}
use Rattle.h1_model.specs.Head as model
use Rattle.h1_model.specs.Length.{nothing}
use Rattle.h1_model.specs.Messages.{head}
use Rattle.h1_model.specs.Unread.{head_part, new_reading, reading_with_bytes, moved_on}
use Rattle.header_maps.specs.Operations.{no_headers}
use Rattle.filter_host.specs.Heard.{hands}
use Rattle.store_model.specs.Program.{Program, done}
use Rattle.worker_model.specs.Plan.{Plan}
use Rattle.worker_model.specs.Rooms.{next_of}
use Rattle.worker_model.specs.Steps.{Both, both, step, after_heard}
use Rattle.worker_model.specs.Turn.{room_for_event}
use Rattle.worker_model.specs.Room.{Room}
use Rattle.worker_model.specs.declared.types.Job.{Job}
use Rattle.worker_model.specs.declared.types.Job.TheVariants as jobs
use Rattle.worker_model.specs.declared.types.Line.{Line}
use Rattle.worker_model.specs.declared.types.Next.TheVariants as next
use Rattle.worker_model.specs.declared.types.ReadBatch.{ReadBatch}
use Rattle.law_rest.specs.Left.{work_left}
use Rattle.law_rest.specs.Laws.{IsAtRest, AllRest}
use Rattle.law_rest.specs.Paid.{brought}
use Rattle.law_rest.specs.Sizes.{room_size, start_size}

-- ---- machines whose callbacks all return one value

abbrev pub returns : ℕ → ℕ → ℕ → Callback → ℕ → ℕ → ℕ → ℕ → Contexts → Program (Called ℕ)
returns value host vm name context first second now h = done (called_back (Returned (Some value)) [] host h)

-- ---- a line with an exchange of one filter, at whose stage the whole head of a request waits

abbrev get : Request
get = record { old_client = false; close = false; is_head = false; minor = 1; length = lengths.Nothing; told = None; whole = true }

abbrev no_response : Response
no_response = record { to_head = false; status = None; length = lengths.Nothing; told = None }

abbrev stage : Bool → Stage
stage response = record { vm = 0; context = 2; response = response; waiting = []; held = held.Nothing; passes = false }

abbrev exchange : Exchange
exchange = record {
  place = 0;
  filters = record { plugin = 0; vm = 0; fails_open = true; created = true; context = 2 } ∷ [];
  request = record (stage false) { waiting = Head true ∷ [] } ∷ [];
  response = stage true ∷ [];
  filters_requests = false;
  filters_responses = false;
  asked = get;
  told = no_response;
  out = None;
  reader = None;
  due = None;
  refusal = None;
  is_head_up = false;
  connection_up = [];
  connection_down = [];
  is_read = false;
  is_entered = true;
  is_headed = false;
  is_answered = false;
  is_head_out = false;
  has_ended = false;
  stays = false;
  closes = false;
}

abbrev room : List Line → Option ReadBatch → List Job → Room
room lines reading parts = record {
  lines = lines;
  hub = record { moment = 0; contexts = with_vm (codes "v") [] (no_contexts Info []); sent = [] };
  reading = reading;
  jobs = [];
  agenda = parts;
  waits = [];
  dead = [];
  is_begun = true;
  calls = [];
  tcp = [];
}

-- deadlines are still to be looked at in this turn
abbrev pub waiting : Room
waiting = room (record { number = 1; requests = new_reading None; is_gone = false; exchange = Some exchange } ∷ []) None (jobs.Expire ∷ [])

abbrev pub plan : Plan
plan = record { routes = record { path = codes "/"; filters = [] } ∷ []; plugins = []; vms = 1; deadline = 1; bodies = []; registers = []; tcp = [] }

-- the room after a step that asks and reads nothing
abbrev room_behind : Course (Both ℕ) → Room → Room
room_behind (ends b) before = b.room
room_behind (asks vm call k) before = before
room_behind (measures vm call k) before = before
room_behind (hears r k) before = before

abbrev pub stepped : ℕ → Room → Room
stepped value before = room_behind (step (returns value) plan (next_of before) 0 before) before

-- Where the stage's callback answers Continue, the head goes up (2 less). Then the part of the turn becomes a job (1), which is done (1). What is
-- left at rest is what the exchange may still come to.
pub record MovingExample : Type 0 where
  pub size : room_size waiting ≡ 5
  pub first : next_of waiting ≡ next.Move 0
  pub before : work_left 1 waiting ≡ 27
  pub second : next_of (stepped 0 waiting) ≡ next.Begin
  pub moved : work_left 1 (stepped 0 waiting) ≡ 25
  pub third : next_of (stepped 0 (stepped 0 waiting)) ≡ next.Work
  pub begun : work_left 1 (stepped 0 (stepped 0 waiting)) ≡ 24
  pub fourth : next_of (stepped 0 (stepped 0 (stepped 0 waiting))) ≡ next.Rest
  pub worked : work_left 1 (stepped 0 (stepped 0 (stepped 0 waiting))) ≡ 23
  -- a stage that pauses holds the head (1 less)
  pub paused : work_left 1 (stepped 1 waiting) ≡ 26

-- ---- a request of 27 bytes is read of a line, whose route has no filters

abbrev get_text : List ℕ
get_text = codes "GET / HTTP/1.1\r\nHost: a\r\n\r\n"

abbrev get_head : model.Head
get_head = record {
  fields = request_headers (codes "GET") (codes "http") (codes "a") (codes "/");
  tail = no_headers;
  form = None;
  minor = 1;
  length = nothing;
  told = None;
  close = false;
  connection = [];
}

abbrev reads : ReadBatch
reads = record { line = 1; up = false; batch = [] }

abbrev pub unread : Room
unread = room (record { number = 1; requests = reading_with_bytes get_text (new_reading None); is_gone = false; exchange = None } ∷ []) (Some reads) []

abbrev pub heard : Room
heard = after_heard plan reads (hands (head_part get_head) (moved_on 27 head (reading_with_bytes get_text (new_reading None)))) (record unread { reading = None })

-- Its bytes are used up (22 each), and the reading ends (12). What comes of it is an exchange (18, and 1), whose stages are made (5), and to
-- which the head comes (3).
pub record ReadingExample : Type 0 where
  pub before : work_left 1 unread ≡ 606
  pub behind : work_left 1 heard ≡ 27
  pub next : next_of heard ≡ next.Work

-- ---- three bytes come of a client whose line is open, of a worker at rest

abbrev pub resting : Room
resting = room (record { number = 1; requests = new_reading None; is_gone = false; exchange = None } ∷ []) None []

abbrev pub three_bytes : Event
three_bytes = record { now = 5; what = Bytes 1 Down (codes "GET") }

-- Deadlines are looked at (2), and the bytes happen (1 and 1), are read (117), and are used up (217 each). That is within what the event brings
-- at most: 248 for each byte, 2 for the VM, and 921; and within 248 for each of the four things that are there then, and 953.
pub record EventExample : Type 0 where
  pub rested : IsAtRest resting
  pub nothing : work_left 16 resting ≡ 0
  pub begins : work_left 16 (room_for_event plan three_bytes resting) ≡ 772
  pub brings : brought resting three_bytes ≡ 1667
  pub size : start_size {H = ℕ} (both 0 resting) three_bytes ≡ 4

-- ---- a line whose filter holds something, while a piece of the body waits at its stage

abbrev pub holding : Held → Room
holding h = room (record { number = 1; requests = new_reading None; is_gone = false; exchange = Some (record exchange { request = record (stage false) { waiting = Piece (codes "ab") true ∷ []; held = h } ∷ [] }) } ∷ []) None []

-- Where it holds the head, or trailers, all is at rest with what waits. Where it holds nothing, or bytes of the body, the stage is asked.
pub record PausedExample : Type 0 where
  pub at_head : IsAtRest (holding (held.Head false))
  pub head_paused : AllRest (holding (held.Head false)).lines
  pub at_trailers : IsAtRest (holding (held.Trailers true))
  pub nothing_held : next_of (holding held.Nothing) ≡ next.Move 0
  pub body_held : next_of (holding (held.Body false)) ≡ next.Move 0
  pub no_rest : IsAtRest (holding (held.Body false)) → ⊥
  pub no_pause : AllRest (holding (held.Body false)).lines → ⊥
