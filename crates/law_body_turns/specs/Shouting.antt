-- A MACHINE THAT COMPUTES: it makes capitals of the letters of a request's body, whatever that is; and two worked turns of a worker with it.
use Rattle.std.specs.Prelude.{◌≡◌, ℕ, ◌-◌, true, false, ◌&&◌, List, [], ◌∷◌, ◌++◌, map, nat_le, None, Some, codes, if◌then◌else◌}
use Rattle.contexts.specs.declared.parts.Contexts.{Contexts}
use Rattle.contexts.specs.declared.parts.StageBuffer as parts
use Rattle.contexts.specs.Stages.{stage_changed}
use Rattle.filter_host.specs.Called.{Called, called_back}
use Rattle.filter_host.specs.Course.{Course}
use Rattle.filter_host.specs.declared.host.CallbackEnd.TheVariants.{Returned}
use Rattle.filter_host.specs.declared.host.Callback.{Callback}
use Rattle.filter_host.specs.declared.host.Callback.TheVariants as callbacks
use Rattle.gate_config.specs.declared.entries.PluginEntry.{PluginEntry}
use Rattle.gate_io.specs.declared.event.Sent.{Sent}
use Rattle.gate_io.specs.declared.event.Sent.TheVariants as sent
use Rattle.gate_io.specs.declared.event.Side.TheVariants.{Down, Up}
use Rattle.gate_io.specs.declared.event.What.{What}
use Rattle.gate_io.specs.declared.event.What.TheVariants as whats
use Rattle.store_model.specs.Program.{Program, done}
use Rattle.worker_model.specs.Plan.{Plan}
use Rattle.worker_model.specs.Steps.{Both}
use Rattle.worker_model.specs.Turn.{Outcome, turn}
use Rattle.law_turns.specs.Scenes.{line_of, plugin, contexts_with_roots, line, state, event, plan_of, up_start, up_end}
use Rattle.law_turns.specs.Tables.{Call, call, call_of, usual, called_of, Comes}
use Rattle.law_turns.specs.Texts.{posted_text}
use Rattle.law_turns.specs.Uploads.{posts_met, goes_on_met}

-- ---- the machine

abbrev pub capital : ℕ → ℕ
capital b = if nat_le 97 b && nat_le b 122 then b - 32 else b

-- what a stage holds, in capitals
abbrev pub shouted : parts.StageBuffer → parts.StageBuffer
shouted t = record t { held = map capital t.held }

-- It answers Continue to the body of a request, and what is held of that is in capitals then; to all else it answers as usual, and changes nothing. It keeps
-- what was called of it.
abbrev pub asked_of : Call → List Call → Contexts → Callback → Called (List Call)
asked_of c calls h callbacks.Begin = called_of [] c (usual callbacks.Begin) calls h
asked_of c calls h callbacks.ContextCreate = called_of [] c (usual callbacks.ContextCreate) calls h
asked_of c calls h callbacks.VmStart = called_of [] c (usual callbacks.VmStart) calls h
asked_of c calls h callbacks.Configure = called_of [] c (usual callbacks.Configure) calls h
asked_of c calls h callbacks.Tick = called_of [] c (usual callbacks.Tick) calls h
asked_of c calls h callbacks.QueueReady = called_of [] c (usual callbacks.QueueReady) calls h
asked_of c calls h callbacks.RequestHeaders = called_of [] c (usual callbacks.RequestHeaders) calls h
asked_of c calls h callbacks.RequestBody = called_back (Returned (Some 0)) [] (calls ++ c ∷ []) (stage_changed shouted h c.vm c.context false)
asked_of c calls h callbacks.RequestTrailers = called_of [] c (usual callbacks.RequestTrailers) calls h
asked_of c calls h callbacks.ResponseHeaders = called_of [] c (usual callbacks.ResponseHeaders) calls h
asked_of c calls h callbacks.ResponseBody = called_of [] c (usual callbacks.ResponseBody) calls h
asked_of c calls h callbacks.ResponseTrailers = called_of [] c (usual callbacks.ResponseTrailers) calls h
asked_of c calls h callbacks.Done = called_of [] c (usual callbacks.Done) calls h
asked_of c calls h callbacks.Log = called_of [] c (usual callbacks.Log) calls h
asked_of c calls h callbacks.Delete = called_of [] c (usual callbacks.Delete) calls h
asked_of c calls h callbacks.CallAnswered = called_of [] c (usual callbacks.CallAnswered) calls h
asked_of c calls h callbacks.NewConnection = called_of [] c (usual callbacks.NewConnection) calls h
asked_of c calls h callbacks.DownstreamData = called_of [] c (usual callbacks.DownstreamData) calls h
asked_of c calls h callbacks.UpstreamData = called_of [] c (usual callbacks.UpstreamData) calls h
asked_of c calls h callbacks.DownstreamClose = called_of [] c (usual callbacks.DownstreamClose) calls h
asked_of c calls h callbacks.UpstreamClose = called_of [] c (usual callbacks.UpstreamClose) calls h

abbrev pub shouting : List Call → ℕ → Callback → ℕ → ℕ → ℕ → ℕ → Contexts → Program (Called (List Call))
shouting calls vm name context first second now h = done (asked_of (call_of vm name context first second) calls h name)

-- ---- the worker: one route, whose plug-in filters bodies of requests

abbrev pub plugins : List PluginEntry
plugins = plugin (codes "p") false ∷ []

abbrev pub plan : Plan
plan = record (plan_of plugins) {
  routes = record { path = codes "/"; filters = 0 ∷ [] } ∷ [];
  bodies = record { requests = true; responses = false } ∷ [];
}

abbrev pub begins : Both (List Call)
begins = state (line 1 None ∷ []) (contexts_with_roots plugins)

abbrev pub turn_of : Both (List Call) → What → Course (Outcome (List Call))
turn_of from what = turn shouting plan from (event 0 what)

-- ---- A REQUEST of three bytes comes, the first two with its head

abbrev pub first : Course (Outcome (List Call))
first = turn_of begins (whats.Bytes 1 Down (posted_text ++ codes "ab"))

abbrev pub first_calls : List Call
first_calls = call callbacks.ContextCreate 2 1 0 ∷ call callbacks.RequestHeaders 2 6 0 ∷ call callbacks.RequestBody 2 2 0 ∷ []

abbrev pub first_sends : List Sent
first_sends =
    sent.Connect 1
    ∷ sent.Bytes 1 Up
    (up_start (codes "POST") ++ line_of (codes "x-b: 2") ++ line_of (codes "transfer-encoding: chunked") ++ up_end (codes "1.1") ++ line_of (codes "2") ++ line_of (codes "AB"))
    ∷ []

-- THE LAST BYTE comes
abbrev pub second : Both (List Call) → Course (Outcome (List Call))
second from = turn_of from (whats.Bytes 1 Down (codes "c"))

abbrev pub second_calls : List Call
second_calls = first_calls ++ call callbacks.RequestBody 2 1 1 ∷ []

abbrev pub second_sends : List Sent
second_sends = sent.Bytes 1 Up (line_of (codes "1") ++ line_of (codes "C") ++ line_of (codes "0") ++ line_of []) ∷ []

pub record ShoutingExample : Type 0 where
  -- letters alone have capitals
  pub letters : map capital (codes "aZz{`9") ≡ codes "AZZ{`9"
  pub head_and_two : Comes first posts_met first_calls first_sends (1 ∷ [])
  pub last : Comes (second head_and_two.end.state) goes_on_met second_calls second_sends (1 ∷ [])
