-- Worked turns of lines that are streams of bytes.
use Rattle.std.specs.Prelude.{◌≡◌, ℕ, zero, suc, Bool, true, false, List, [], ◌∷◌, ◌++◌, map, Option, None, Some, codes}
use Rattle.contexts.specs.declared.parts.Contexts.{Contexts}
use Rattle.contexts.specs.declared.parts.EffectKind.TheVariants as effects
use Rattle.filter_host.specs.Called.{Called, called_back}
use Rattle.filter_host.specs.Course.{Course, ends, Reaches}
use Rattle.filter_host.specs.declared.host.CallbackEnd.TheVariants.{Returned, Died}
use Rattle.filter_host.specs.declared.host.Callback.{Callback}
use Rattle.filter_host.specs.declared.host.Callback.TheVariants.{ContextCreate, Tick, Done, Log, Delete, CallAnswered, NewConnection, DownstreamData, UpstreamData, DownstreamClose, UpstreamClose}
use Rattle.filter_host.specs.declared.host.Death.TheVariants.{Trapped}
use Rattle.gate_base.specs.declared.cause.Cause.TheVariants.{Unreachable}
use Rattle.gate_base.specs.declared.level.Level.TheVariants.{Critical}
use Rattle.gate_config.specs.declared.entries.PluginEntry.{PluginEntry}
use Rattle.gate_io.specs.declared.event.Sent.{Sent}
use Rattle.gate_io.specs.declared.event.Sent.TheVariants as sent
use Rattle.gate_io.specs.declared.event.Side.TheVariants.{Down, Up}
use Rattle.gate_io.specs.declared.event.What.{What}
use Rattle.gate_io.specs.declared.event.What.TheVariants as whats
use Rattle.store_model.specs.Program.{Program, done}
use Rattle.worker_model.specs.Plan.{Plan}
use Rattle.worker_model.specs.Steps.{Both, both, with_tick}
use Rattle.gate_io.specs.declared.passed.Wants.{Wants}
use Rattle.worker_model.specs.Turn.{Outcome}
use Rattle.worker_model.specs.declared.types.TcpLine.{TcpLine}
use Rattle.streams_model.specs.Opening.{new_line}
use Rattle.streams_model.specs.Turn.{turn}
use Rattle.streams_model.specs.Wants.{wants_for}
use Rattle.law_turns.specs.Tables.{Call, call, call_of, Deed, called_of, usual}
use Rattle.law_callouts.specs.Calls.{first_out, first_closed}
use Rattle.law_callouts.specs.Scenes.{calls_out, goes_on}
use Rattle.law_turns.specs.Scenes.{plugin, contexts_with_roots, room, event, plan_of}

-- ---- the machines: they export all callbacks of streams, and answer Continue; their state is what was called so far

-- which callbacks they export, and what each answers where no deed of it is told
abbrev pub exports : Callback → Option (Option ℕ)
exports NewConnection = Some (Some 0)
exports DownstreamData = Some (Some 0)
exports UpstreamData = Some (Some 0)
exports DownstreamClose = Some None
exports UpstreamClose = Some None
exports CallAnswered = Some None
exports name = usual name

-- the machines of a table that export these
abbrev pub calling_by : List Deed → List Call → ℕ → Callback → ℕ → ℕ → ℕ → ℕ → Contexts → Program (Called (List Call))
calling_by deeds calls vm name context first second now h = done (called_of deeds (call_of vm name context first second) (exports name) calls h)

-- those of a module that exports nothing
abbrev pub silent : List Call → ℕ → Callback → ℕ → ℕ → ℕ → ℕ → Contexts → Program (Called (List Call))
silent calls vm name context first second now h = done (called_back (Returned None) [] calls h)

-- ---- what a turn comes to: what was called so far, what is sent, and the open lines

-- the course comes to its end without a store. Then these callbacks were called, this is sent, and these lines are open.
pub record Comes (course : Course (Outcome (List Call))) (calls : List Call) (sent : List Sent) (lines : List ℕ) : Type 0 where
  pub end : Outcome (List Call)
  pub reaches : Reaches course [] (ends end)
  pub called : end.state.host ≡ calls
  pub hands_over : end.sent ≡ sent
  pub leaves : map (λ (l : TcpLine). l.number) end.state.room.tcp ≡ lines

-- ---- the worker: plug-in `p`, whose root is 1, or `p` and `q`, whose roots are 1 and 2; root 1 has a tick at the first second

-- one plug-in, under open or closed
abbrev pub one : Bool → List PluginEntry
one opens = plugin (codes "p") opens ∷ []

-- the two of them, under closed
abbrev pub two : List PluginEntry
two = plugin (codes "p") false ∷ plugin (codes "q") false ∷ []

-- a plan by which lines are streams that pass these plug-ins
abbrev pub plan_for : List PluginEntry → List ℕ → Plan
plan_for plugins tcp = record (plan_of plugins) { tcp = tcp }

-- the worker at rest
abbrev pub starts_with : List PluginEntry → Both (List Call)
starts_with plugins = both [] (room [] (with_tick 0 1 (record { period = 10000000000; due = 1000000000 }) (contexts_with_roots plugins)))

-- a turn with one filter that has these deeds
abbrev pub turn_by : List Deed → Bool → Both (List Call) → ℕ → What → Course (Outcome (List Call))
turn_by deeds opens from now what = turn (calling_by deeds) (plan_for (one opens) (0 ∷ [])) from (event now what)

-- a turn with two filters
abbrev pub turn_of_two : Both (List Call) → ℕ → What → Course (Outcome (List Call))
turn_of_two from now what = turn (calling_by []) (plan_for two (0 ∷ 1 ∷ [])) from (event now what)

-- a turn with a filter that exports nothing
abbrev pub silent_turn : Both (List Call) → ℕ → What → Course (Outcome (List Call))
silent_turn from now what = turn silent (plan_for (one false) (0 ∷ [])) from (event now what)

-- so many lines are open, of the numbers from 1 on
abbrev pub lines_up_to : ℕ → List TcpLine
lines_up_to zero = []
lines_up_to (suc n) = lines_up_to n ++ new_line (suc n) [] ∷ []

-- a turn of a worker that has so many
abbrev pub crowded_turn : ℕ → What → Course (Outcome (List Call))
crowded_turn count what = silent_turn (both [] (record (room [] (contexts_with_roots (one false))) { tcp = lines_up_to count })) 0 what

-- ---- what its filters do

-- one pauses New, which its root's tick lets go on
abbrev pub pauses : List Deed
pauses =
    record { name = NewConnection; context = 2; end = Returned (Some 1); effects = [] }
    ∷ record { name = Tick; context = 1; end = Returned None; effects = record { context = 2; what = effects.Continue false } ∷ [] } ∷ []

-- one holds the bytes of the client
abbrev pub holds : List Deed
holds = record { name = DownstreamData; context = 2; end = Returned (Some 1); effects = [] } ∷ []

-- one holds New and begins a callout, and lets New go on once it is told of it
abbrev pub calls_first : List Deed
calls_first =
    record { name = NewConnection; context = 2; end = Returned (Some 1); effects = calls_out 1000 ∷ [] }
    ∷ record { name = CallAnswered; context = 2; end = Returned None; effects = goes_on ∷ [] } ∷ []

-- one closes the stream at bytes of the client
abbrev pub closes : List Deed
closes = record { name = DownstreamData; context = 2; end = Returned (Some 0); effects = record { context = 2; what = effects.Close } ∷ [] } ∷ []

-- one has its own stage go on at New, and answers Pause
abbrev pub goes_on_and_pauses : List Deed
goes_on_and_pauses = record { name = NewConnection; context = 2; end = Returned (Some 1); effects = record { context = 2; what = effects.Continue false } ∷ [] } ∷ []

-- one traps when its context is made
abbrev pub traps_first : List Deed
traps_first = record { name = ContextCreate; context = 2; end = Died (Trapped Unreachable); effects = [] } ∷ []

-- one traps at bytes of the client
abbrev pub traps : List Deed
traps = record { name = DownstreamData; context = 2; end = Died (Trapped Unreachable); effects = [] } ∷ []

-- the death in the log
abbrev pub death_log : List Sent
death_log = sent.Log Critical (codes "vm v died: unreachable") ∷ []

-- what is called when a line opens
abbrev pub first_calls : List Call
first_calls = call ContextCreate 2 1 0 ∷ call NewConnection 2 0 0 ∷ []

-- what is called when a connection ends, by which peer each side ended
abbrev pub last_calls : ℕ → ℕ → List Call
last_calls up down = call UpstreamClose 2 up 0 ∷ call DownstreamClose 2 down 0 ∷ call Done 2 0 0 ∷ call Log 2 0 0 ∷ call Delete 2 0 0 ∷ []

-- the same where there was none to the server
abbrev pub last_calls_down : ℕ → List Call
last_calls_down down = call DownstreamClose 2 down 0 ∷ call Done 2 0 0 ∷ call Log 2 0 0 ∷ call Delete 2 0 0 ∷ []

-- the same of two filters: what is called when a line opens
abbrev pub first_calls_of_two : List Call
first_calls_of_two = call ContextCreate 3 1 0 ∷ call ContextCreate 4 2 0 ∷ call NewConnection 3 0 0 ∷ call NewConnection 4 0 0 ∷ []

-- and when the connection to the server is gone
abbrev pub last_calls_of_two : List Call
last_calls_of_two =
    call UpstreamClose 3 2 0 ∷ call DownstreamClose 3 1 0 ∷ call UpstreamClose 4 2 0 ∷ call DownstreamClose 4 1 0
    ∷ call Done 3 0 0 ∷ call Log 3 0 0 ∷ call Delete 3 0 0 ∷ call Done 4 0 0 ∷ call Log 4 0 0 ∷ call Delete 4 0 0 ∷ []

-- WHAT TURNS OF STREAMS COME TO
pub record StreamExamples : Type 0 where
  -- no callback is exported: bytes pass, the end of the client sends nothing, and that of the server ends the connection
  pub connects : Comes (silent_turn (starts_with (one false)) 0 (whats.Opened 1)) ([]) (sent.Connect 1 ∷ []) (1 ∷ [])
  pub sends_up : Comes (silent_turn connects.end.state 0 (whats.Bytes 1 Down (codes "ab"))) ([]) (sent.Bytes 1 Up (codes "ab") ∷ []) (1 ∷ [])
  pub sends_down : Comes (silent_turn sends_up.end.state 0 (whats.Bytes 1 Up (codes "c"))) ([]) (sent.Bytes 1 Down (codes "c") ∷ []) (1 ∷ [])
  pub client_ends : Comes (silent_turn sends_down.end.state 0 (whats.End 1 Down)) ([]) ([]) (1 ∷ [])
  pub server_ends : Comes (silent_turn client_ends.end.state 0 (whats.End 1 Up)) ([]) (sent.Close 1 Up ∷ sent.Close 1 Down ∷ []) ([])
  -- callbacks are asked: New, bytes with their number, and the end with its flag; then each is told of the ends, done, logged and deleted
  pub asks_new : Comes (turn_by [] false (starts_with (one false)) 0 (whats.Opened 1)) (first_calls) (sent.Connect 1 ∷ []) (1 ∷ [])
  pub asks_data : Comes (turn_by [] false asks_new.end.state 0 (whats.Bytes 1 Down (codes "ab"))) (first_calls ++ call DownstreamData 2 2 0 ∷ []) (sent.Bytes 1 Up (codes "ab") ∷ []) (1 ∷ [])
  pub asks_end : Comes (turn_by [] false asks_data.end.state 0 (whats.End 1 Up)) (first_calls ++ call DownstreamData 2 2 0 ∷ call UpstreamData 2 0 1 ∷ last_calls 2 1) (sent.Close 1 Up ∷ sent.Close 1 Down ∷ []) ([])
  pub asks_refused : Comes (turn_by [] false asks_new.end.state 0 (whats.Refused 1)) (first_calls ++ last_calls 2 1) (sent.Close 1 Up ∷ sent.Close 1 Down ∷ []) ([])
  -- New is paused, bytes and the end wait, nothing of the server comes yet, and a tick lets it go
  pub pauses_new : Comes (turn_by pauses false (starts_with (one false)) 0 (whats.Opened 1)) (first_calls) ([]) (1 ∷ [])
  pub bytes_wait : Comes (turn_by pauses false pauses_new.end.state 0 (whats.Bytes 1 Down (codes "ab"))) (first_calls) ([]) (1 ∷ [])
  pub end_waits : Comes (turn_by pauses false bytes_wait.end.state 0 (whats.End 1 Down)) (first_calls) ([]) (1 ∷ [])
  pub nothing_up_yet : Comes (turn_by pauses false end_waits.end.state 0 (whats.Bytes 1 Up (codes "c"))) (first_calls) ([]) (1 ∷ [])
  pub tick_lets_go : Comes (turn_by pauses false nothing_up_yet.end.state 1000000000 whats.Clock) (first_calls ++ call Tick 1 0 0 ∷ call DownstreamData 2 2 0 ∷ call DownstreamData 2 0 1 ∷ []) (sent.Connect 1 ∷ sent.Bytes 1 Up (codes "ab") ∷ []) (1 ∷ [])
  -- a client that is gone before New left: nobody is told of a connection to the server, and none is closed
  pub gone_before : Comes (turn_by pauses false bytes_wait.end.state 0 (whats.Gone 1 Down)) (first_calls ++ last_calls_down 2) ([]) ([])
  -- the answer decides of the stage whose callback it is, whatever that callback asked for it
  pub answer_decides : Comes (turn_by goes_on_and_pauses false (starts_with (one false)) 0 (whats.Opened 1)) (first_calls) ([]) (1 ∷ [])
  -- bytes are held, and go on with the next
  pub holds_new : Comes (turn_by holds false (starts_with (one false)) 0 (whats.Opened 1)) (first_calls) (sent.Connect 1 ∷ []) (1 ∷ [])
  pub holds_first : Comes (turn_by holds false holds_new.end.state 0 (whats.Bytes 1 Down (codes "ab"))) (first_calls ++ call DownstreamData 2 2 0 ∷ []) ([]) (1 ∷ [])
  pub goes_with_second : Comes (turn_by [] false holds_first.end.state 0 (whats.Bytes 1 Down (codes "c"))) (first_calls ++ call DownstreamData 2 2 0 ∷ call DownstreamData 2 3 0 ∷ []) (sent.Bytes 1 Up (codes "abc") ∷ []) (1 ∷ [])
  -- a filter closes the stream: the gateway ended both sides
  pub closes_stream : Comes (turn_by closes false asks_new.end.state 0 (whats.Bytes 1 Down (codes "ab"))) (first_calls ++ call DownstreamData 2 2 0 ∷ last_calls 1 1) (sent.Close 1 Up ∷ sent.Close 1 Down ∷ []) ([])
  -- a death under closed ends the connection, without callbacks of that VM; from then on a line is closed at once
  pub dies_closed : Comes (turn_by traps false asks_new.end.state 0 (whats.Bytes 1 Down (codes "ab"))) (first_calls ++ call DownstreamData 2 2 0 ∷ []) (death_log ++ sent.Close 1 Up ∷ sent.Close 1 Down ∷ []) ([])
  pub closed_at_once : Comes (turn_by traps false dies_closed.end.state 0 (whats.Opened 2)) (first_calls ++ call DownstreamData 2 2 0 ∷ []) (sent.Close 2 Down ∷ []) ([])
  -- a death at the making of a context ends the line before New comes: no connection to the server is opened
  pub dies_at_making : Comes (turn_by traps_first false (starts_with (one false)) 0 (whats.Opened 1)) (call ContextCreate 2 1 0 ∷ []) (death_log ++ sent.Close 1 Down ∷ []) ([])
  -- there are 128 lines at most: one more is closed at once
  pub takes_128 : Comes (crowded_turn 127 (whats.Opened 128)) ([]) (sent.Connect 128 ∷ []) (map (λ (l : TcpLine). l.number) (lines_up_to 128))
  pub closes_129 : Comes (crowded_turn 128 (whats.Opened 129)) ([]) (sent.Close 129 Down ∷ []) (map (λ (l : TcpLine). l.number) (lines_up_to 128))
  -- a death under open lets what was held go on, and a line after it skips the filter
  pub opens_open : Comes (turn_by [] true (starts_with (one true)) 0 (whats.Opened 1)) (first_calls) (sent.Connect 1 ∷ []) (1 ∷ [])
  pub dies_open : Comes (turn_by traps true opens_open.end.state 0 (whats.Bytes 1 Down (codes "ab"))) (first_calls ++ call DownstreamData 2 2 0 ∷ []) (death_log ++ sent.Bytes 1 Up (codes "ab") ∷ []) (1 ∷ [])
  pub skips_dead : Comes (turn_by traps true dies_open.end.state 0 (whats.Opened 2)) (first_calls ++ call DownstreamData 2 2 0 ∷ []) (sent.Connect 2 ∷ []) (1 ∷ 2 ∷ [])
  -- a callout of New is due after a second; it has failed then, and its filter lets New go on
  pub calls_out_at_new : Comes (turn_by calls_first false (starts_with (one false)) 0 (whats.Opened 1)) (first_calls) (first_out) (1 ∷ [])
  pub goes_on_after_call : Comes (turn_by calls_first false calls_out_at_new.end.state 1000000000 whats.Clock) (first_calls ++ call Tick 1 0 0 ∷ call CallAnswered 2 1 0 ∷ []) (first_closed ++ sent.Connect 1 ∷ []) (1 ∷ [])
  -- two filters: made and asked in order, back in reverse, and told of the ends one after the other
  pub opens_two : Comes (turn_of_two (starts_with two) 0 (whats.Opened 1)) (first_calls_of_two) (sent.Connect 1 ∷ []) (1 ∷ [])
  pub back_in_reverse : Comes (turn_of_two opens_two.end.state 0 (whats.Bytes 1 Up (codes "c"))) (first_calls_of_two ++ call UpstreamData 4 1 0 ∷ call UpstreamData 3 1 0 ∷ []) (sent.Bytes 1 Down (codes "c") ∷ []) (1 ∷ [])
  pub server_gone : Comes (turn_of_two opens_two.end.state 0 (whats.Gone 1 Up)) (first_calls_of_two ++ last_calls_of_two) (sent.Close 1 Up ∷ sent.Close 1 Down ∷ []) ([])

-- what a worker wants, in short
abbrev pub wants : List ℕ → List ℕ → Option ℕ → Wants
wants down up due = record { down = down; up = up; due = due }

-- a line whose connection to the server is open
abbrev pub connected_line : TcpLine
connected_line = record (new_line 1 []) { is_up = true }

-- A line is read where there is room; its server is, once there is a connection. The tick is due at the first second.
pub record StreamWants : Type 0 where
  pub connected : wants_for (plan_for (one false) (0 ∷ [])) (record (room [] (contexts_with_roots (one false))) { tcp = connected_line ∷ [] }) [] ≡ wants (1 ∷ []) (1 ∷ []) None
  pub not_yet : wants_for (plan_for (one false) (0 ∷ [])) (record (room [] (contexts_with_roots (one false))) { tcp = new_line 1 [] ∷ [] }) [] ≡ wants (1 ∷ []) [] None
