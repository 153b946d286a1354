-- In which order connections, bytes and closes go on the two sides of a line of HTTP.
use Rattle.std.specs.Prelude.{◌≡◌, ℕ, ◌==◌, Bool, true, false, List, [], ◌∷◌, ◌++◌, Option, None, Some, is_some, if◌then◌else◌}
use Rattle.callouts.specs.Callouts.{is_call_line}
use Rattle.filter_host.specs.Called.{Calling}
use Rattle.filter_host.specs.Course.{ends, Met, Reaches}
use Rattle.filter_host.specs.declared.host.Callback.{Callback}
use Rattle.contexts.specs.declared.parts.Contexts.{Contexts}
use Rattle.exchange.specs.declared.types.Exchange.{Exchange}
use Rattle.gate_config.specs.declared.config.Config.{Config}
use Rattle.gate_io.specs.declared.event.Event.{Event}
use Rattle.gate_io.specs.declared.event.Sent.{Sent}
use Rattle.gate_io.specs.declared.event.Sent.TheVariants as to
use Rattle.gate_io.specs.declared.event.Side.{Side}
use Rattle.gate_io.specs.declared.event.Side.TheVariants.{Down, Up}
use Rattle.gate_io.specs.declared.event.What.{What}
use Rattle.gate_io.specs.declared.event.What.TheVariants as whats
use Rattle.gate_io.specs.declared.passed.Passed.{Passed}
use Rattle.law_lines.specs.Logs.{WriteLogs}
use Rattle.law_lines.specs.Turns.{Done, Turns, Worked, new_room}
use Rattle.store_model.specs.Made.{Made}
use Rattle.vm_host.specs.Slots as slots
use Rattle.vm_host.specs.declared.slots.Vms.{Vms}
use Rattle.worker_model.specs.Room.{Room}
use Rattle.worker_model.specs.declared.types.Line.{Line}
use Rattle.worker_model.specs.Making.{new_worker}
use Rattle.worker_model.specs.Plan.{Plan}
use Rattle.worker_model.specs.Rooms.{next_of}
use Rattle.worker_model.specs.Settling.{is_rest}
use Rattle.worker_model.specs.State.{Standing}
use Rattle.worker_model.specs.Steps.{Both, both, line_in}
use Rattle.worker_model.specs.Turn.{Outcome, turn}
use Rattle.streams_model.specs.Turned.{Whole}

-- ---- a line, as its peers see it

-- No client is connected, nor is anything open up. Or the client is connected, and a connection up is open, or none. Or the client is gone, and its
-- connection up is still to be closed.
pub data State : Type 0 where
  shut : State
  stands : (up : Bool) → State
  lost : State

-- ---- what is sent, and what state it leaves; nothing, where it may not be sent

-- a connection up is opened where the client is connected, and none is open
abbrev pub connects : State → Option State
connects (stands false) = Some (stands true)
connects s = None

-- A piece of no bytes is never sent. Bytes go up where a connection up is open, and down where the client is connected.
abbrev pub passes : Side → List ℕ → State → Option State
passes Up (b ∷ bytes) (stands true) = Some (stands true)
passes Down (b ∷ bytes) (stands up) = Some (stands up)
passes side bytes s = None

-- A connection up is closed where one is open. The client's is closed only once that is closed.
abbrev pub closes : Side → State → Option State
closes Up (stands true) = Some (stands false)
closes Up lost = Some shut
closes Down (stands false) = Some shut
closes side s = None

-- what is sent on other lines leaves the state as it is, and so do lines of the log
abbrev pub where_line : ℕ → ℕ → Option State → State → Option State
where_line n m here s = if m == n then here else Some s

abbrev pub state_after_one : ℕ → Sent → State → Option State
state_after_one n (to.Connect m) s = where_line n m (connects s) s
state_after_one n (to.Bytes m side bytes) s = where_line n m (passes side bytes s) s
state_after_one n (to.Close m side) s = where_line n m (closes side s) s
state_after_one n (to.Log level text) s = Some s

abbrev pub and_then : (State → Option State) → Option State → Option State
and_then next None = None
and_then next (Some s) = next s

abbrev pub state_after : ℕ → List Sent → State → Option State
state_after n [] s = Some s
state_after n (one ∷ sent) s = and_then (state_after n sent) (state_after_one n one s)

-- IN ORDER ON A LINE: all of this may be sent, from the one state on, and leaves the other
abbrev pub On : ℕ → State → List Sent → State → Type 0
On n from sent to = state_after n sent from ≡ Some to

-- ---- what happens

abbrev pub opened : State → State
opened shut = stands false
opened (stands up) = stands up
opened lost = lost

abbrev pub left : State → State
left shut = shut
left (stands true) = lost
left (stands false) = shut
left lost = lost

-- A client connects, or is gone. Nothing else that happens changes the state by itself: not the end of what a peer sends, nor that a server is gone or refuses
-- to be connected (the connection up is closed then when the exchange ends).
abbrev pub state_at_event : ℕ → What → State → State
state_at_event n (whats.Opened m) s = if m == n then opened s else s
state_at_event n (whats.Gone m Down) s = if m == n then left s else s
state_at_event n what s = s

-- ---- the line in a room

-- a connection up was opened for it, and not closed
abbrev pub has_up : Option Exchange → Bool
has_up None = false
has_up (Some x) = is_some x.reader

abbrev pub lost_or_shut : Bool → State
lost_or_shut up = if up then lost else shut

abbrev pub state_in : Option Line → State
state_in None = shut
state_in (Some line) = if line.is_gone then lost_or_shut (has_up line.exchange) else stands (has_up line.exchange)

abbrev pub state_of : ℕ → Room → State
state_of n room = state_in (line_in n room.lines)

-- ---- turns

-- ONE TURN OF A LINE, in which this happens: some of what is sent comes before it, and the rest after it, each in order. After the turn no client is gone whose
-- connection up is open.
pub record IsTurn (n : ℕ) (what : What) (from : State) (sent : List Sent) (after : State) : Type 0 where
  pub before : List Sent
  pub behind : List Sent
  pub mid : State
  pub is : sent ≡ before ++ behind
  pub first : On n from before mid
  pub later : On n (state_at_event n what mid) behind after
  pub not_lost : after ≡ lost → ⊥

-- everything is at rest, as `law_rest` says it of a room
abbrev pub IsAtRest : Room → Type 0
IsAtRest room = is_rest (next_of room) ≡ true

-- EACH TURN IS IN ORDER ON EACH LINE of a client: whatever turns a new worker has had, the last of them at rest, and whatever its machines do but that they send
-- nothing but logs, a further turn that comes to rest is so.
abbrev pub ConnectionsGoInOrder : (H : Type 0) → Type 0
ConnectionsGoInOrder H =
    (calling : Calling H) (plan : Plan) (contexts : Contexts) (host : H) (turns : List (Done H)) (state : Both H) (event : Event) (met : List Met) (end : Outcome H) (n : ℕ) → is_call_line n ≡ false → WriteLogs calling
    → Turns calling plan (both host (new_room contexts)) turns state → IsAtRest state.room → Reaches (turn calling plan state event) met (ends end) → IsAtRest end.state.room
    → IsTurn n event.what (state_of n state.room) end.sent (state_of n end.state.room)

-- THE SAME OF A WORKER AND ITS CODE: from a worker that was made of a configuration, as `Worker::new` makes it, by whole turns as its code takes them, over
-- shared stores of any kind. Each of them comes to rest. The configuration has no streams of bytes.
abbrev pub WorkersGoInOrder : (H S : Type 0) → (performs : S → List Made → S → Type 0) → Type 0
WorkersGoInOrder H S performs =
    (calling : Calling H) (exported : H → ℕ → Callback → Bool) (registering : H → ℕ → Bool) (config : Config) (who : ℕ) (seed : List ℕ) (host : H)
    (sent : List Sent) (stop : Bool) (s t : S) (old new : Option (List Passed)) (from after : Standing H) (n : ℕ) → config.tcp ≡ [] → is_call_line n ≡ false → WriteLogs calling
    → Worked calling performs (new_worker exported registering config who seed host) sent from → (turn : Whole calling performs stop s old from after t new)
    → IsTurn n turn.event.what (state_of n from.state.room) turn.sent (state_of n after.state.room)

-- THE SAME OF THE PRODUCT: with the machines of its VMs, whatever these are.
abbrev pub ConnectionsOfTheProductGoInOrder : (S : Type 0) → (performs : S → List Made → S → Type 0) → Type 0
ConnectionsOfTheProductGoInOrder S performs =
    (config : Config) (who : ℕ) (seed : List ℕ) (host : Vms) (sent : List Sent) (stop : Bool) (s t : S) (old new : Option (List Passed)) (from after : Standing Vms) (n : ℕ) → config.tcp ≡ [] → is_call_line n ≡ false
    → Worked slots.calling performs (new_worker slots.exported_in slots.registering_in config who seed host) sent from
    → (turn : Whole slots.calling performs stop s old from after t new)
    → IsTurn n turn.event.what (state_of n from.state.room) turn.sent (state_of n after.state.room)
