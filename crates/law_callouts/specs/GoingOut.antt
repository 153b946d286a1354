-- WHAT IS SENT ON THE LINE OF A CALLOUT, from 2^31 on, over the whole life of a worker.
use Rattle.std.specs.Prelude.{◌≡◌, ◌<◌, ◌≤◌, ℕ, List, [], ◌∷◌, ◌++◌, None, Some}
use Rattle.callouts.specs.Callouts.{callout_in, line_of}
use Rattle.callouts.specs.Requests.{request_wire}
use Rattle.callouts.specs.declared.types.Callout.{Callout}
use Rattle.contexts.specs.declared.parts.Request.{Request}
use Rattle.filter_host.specs.Called.{Calling}
use Rattle.gate_config.specs.declared.config.Config.{Config}
use Rattle.gate_io.specs.declared.event.Sent.{Sent}
use Rattle.gate_io.specs.declared.event.Sent.TheVariants.{Connect, Bytes, Close}
use Rattle.gate_io.specs.declared.event.Side.TheVariants.{Up}
use Rattle.vm_host.specs.Slots as slots
use Rattle.vm_host.specs.declared.slots.Vms.{Vms}
use Rattle.worker_model.specs.Making.{first_room}
use Rattle.worker_model.specs.Plan.{Plan}
use Rattle.worker_model.specs.Room.{Room}
use Rattle.worker_model.specs.Steps.{Both, both}
use Rattle.law_lines.specs.Isolation.{sent_on}
use Rattle.law_lines.specs.Logs.{WriteLogs}
use Rattle.law_lines.specs.Turns.{Done, Turns, sent_in}
use Rattle.law_vms.specs.OwnChanges.{ArePlaced}
use Rattle.law_callouts.specs.Ends.{KeepsCounts}

-- its connection is opened, and all bytes of the request are sent over it
abbrev pub request_out : ℕ → Request → List Sent
request_out id q = Connect (line_of id) ∷ Bytes (line_of id) Up (request_wire q) ∷ []

-- and its close
abbrev pub close_out : ℕ → List Sent
close_out id = Close (line_of id) Up ∷ []

-- the first id is 1, and they are drawn one after another
abbrev pub IsDrawn : ℕ → Room → Type 0
IsDrawn id room = (0 < id) × (id ≤ room.hub.contexts.calls.last)

-- ALL THAT IS SENT ON THE LINE OF AN ID: nothing, where the id was not drawn. While its callout is under way, one connection and the bytes of one request. Once it has
-- ended, the same and then one close.
pub data GoesOut (id : ℕ) (room : Room) (sent : List Sent) : Type 0 where
  nothing : (IsDrawn id room → ⊥) → sent_on (line_of id) sent ≡ [] → GoesOut id room sent
  request : (c : Callout) (q : Request) → callout_in id room.calls ≡ Some c → sent_on (line_of id) sent ≡ request_out id q → GoesOut id room sent
  closed : (q : Request) → IsDrawn id room → callout_in id room.calls ≡ None → sent_on (line_of id) sent ≡ request_out id q ++ close_out id → GoesOut id room sent

-- EACH CALLOUT GOES OUT ONCE: over the turns of a new worker, whatever its machines do that write logs and leave the counts of callouts, whatever the shared stores
-- reply and lines bring.
abbrev pub CalloutsGoOutOnce : (H : Type 0) → Type 0
CalloutsGoOutOnce H =
    (calling : Calling H) (plan : Plan) (config : Config) (seed : List ℕ) (host : H) (turns : List (Done H)) (to : Both H) (id : ℕ) → KeepsCounts calling → WriteLogs calling
    → Turns calling plan (both host (first_room config seed)) turns to → GoesOut id to.room (sent_in turns)

-- THE SAME OF MACHINES THAT RUN MODULES, where each stands at the number of its contexts.
abbrev pub WorkersGoOutOnce : Type 0
WorkersGoOutOnce =
    (plan : Plan) (config : Config) (seed : List ℕ) (host : Vms) (turns : List (Done Vms)) (to : Both Vms) (id : ℕ) → ArePlaced host
    → Turns slots.calling plan (both host (first_room config seed)) turns to → GoesOut id to.room (sent_in turns)
