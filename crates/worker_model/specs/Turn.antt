-- A TURN: what a worker does at an event.
use Rattle.std.specs.Prelude.{ℕ, zero, suc, ◌+◌, ◌==◌, ◌&&◌, Bool, true, false, List, [], ◌∷◌, ◌++◌, length, slice_get, nat_le, Option, None, Some, if◌then◌else◌}
use Rattle.std.specs.List.{list_any}
use Rattle.callouts.specs.Callouts.{line_in, is_of_call, callout_at, due_at}
use Rattle.callouts.specs.declared.types.CallStep.TheVariants as steps
use Rattle.callouts.specs.declared.types.Callout.{Callout}
use Rattle.contexts.specs.declared.parts.Context.{Context}
use Rattle.contexts.specs.declared.parts.Contexts.{Contexts}
use Rattle.contexts.specs.declared.parts.Plugin.{Plugin}
use Rattle.contexts.specs.declared.parts.Tick.{Tick}
use Rattle.contexts.specs.Creating.{next_id}
use Rattle.contexts.specs.Reached.{vm_in}
use Rattle.filter_host.specs.Called.{Called}
use Rattle.filter_host.specs.Course.{Course, ends, then_do}
use Rattle.filter_host.specs.declared.host.Callback.{Callback}
use Rattle.gate_io.specs.Events.{is_stop}
use Rattle.gate_io.specs.declared.event.Event.{Event}
use Rattle.gate_io.specs.declared.event.Sent.{Sent}
use Rattle.gate_io.specs.declared.event.What.{What}
use Rattle.send_queue.specs.Joined.{join_neighbours}
use Rattle.store_model.specs.Program.{Program}
use Rattle.worker_model.specs.Calls.{call_job}
use Rattle.worker_model.specs.Room.{Room}
use Rattle.worker_model.specs.declared.types.Job.{Job}
use Rattle.worker_model.specs.declared.types.Job.TheVariants as jobs
use Rattle.worker_model.specs.Plan.{Plan}
use Rattle.worker_model.specs.Settling.{settling}
use Rattle.worker_model.specs.Steps.{Both, both, is_due_tick}

-- ---- the start of the VMs

abbrev pub is_of : ℕ → Plugin → Bool
is_of vm p = p.vm == vm

-- the roots of a VM's plug-ins, from a place on; the first of them is where the VM starts
abbrev pub roots_from : ℕ → ℕ → Bool → List Plugin → List Job
roots_from vm place first [] = []
roots_from vm place first (p ∷ plugins) =
    if is_of vm p then jobs.Root vm place first ∷ roots_from vm (place + 1) false plugins else roots_from vm (place + 1) first plugins

-- a VM that a plug-in names
abbrev pub start_of : ℕ → List Plugin → List Job
start_of vm plugins = if list_any (is_of vm) plugins then jobs.Begin vm ∷ roots_from vm 0 true plugins else []

-- of so many, in order
abbrev pub starts_of : ℕ → List Plugin → List Job
starts_of zero plugins = []
starts_of (suc n) plugins = starts_of n plugins ++ start_of n plugins

-- there are 16 VMs at most
abbrev pub first_vms : ℕ → ℕ
first_vms n = if nat_le n 16 then n else 16

abbrev pub vms_in : Room → ℕ
vms_in room = first_vms (length room.hub.contexts.vms)

-- at the first event all of them start
abbrev pub start_jobs : Room → List Job
start_jobs room = if room.is_begun then [] else starts_of (vms_in room) room.hub.contexts.plugins

-- ---- what comes in front of the event, and after it

abbrev pub is_due_now : ℕ → Option Tick → Bool
is_due_now now None = false
is_due_now now (Some t) = is_due_tick now t

-- the roots of a VM that are due, in the order of their ids
abbrev pub ticks_in : ℕ → ℕ → List Context → List Job
ticks_in now vm [] = []
ticks_in now vm (c ∷ contexts) = if is_due_now now c.tick then jobs.Tick vm c.id ∷ ticks_in now vm contexts else ticks_in now vm contexts

abbrev pub ticks_of : ℕ → ℕ → Contexts → List Job
ticks_of now zero h = []
ticks_of now (suc n) h = ticks_of now n h ++ ticks_in now n (vm_in h n).contexts

-- The roots that the start of a VM makes, by their ids to come: these follow the last one that was drawn. A tick that a start sets may be due at once
-- (at the last moment of the clock), and then it comes in the same turn. The step asks whether it is due.
abbrev pub new_ticks_from : ℕ → ℕ → List Plugin → List Job
new_ticks_from vm id [] = []
new_ticks_from vm id (p ∷ plugins) =
    if is_of vm p && nat_le id 4294967295 then jobs.Tick vm id ∷ new_ticks_from vm (id + 1) plugins else new_ticks_from vm id plugins

abbrev pub new_ticks_of : ℕ → Contexts → List Job
new_ticks_of zero h = []
new_ticks_of (suc n) h = new_ticks_of n h ++ new_ticks_from n (next_id h n) h.plugins

abbrev pub new_ticks : Room → List Job
new_ticks room = if room.is_begun then [] else new_ticks_of (vms_in room) room.hub.contexts

-- the ticks that are due when the event comes, and those of the roots that this turn makes
abbrev pub ticks_due : Room → List Job
ticks_due room = ticks_of room.hub.moment (vms_in room) room.hub.contexts ++ new_ticks room

-- responses may be due where the configuration says for how long they are waited for
abbrev pub deadline_jobs : Plan → List Job
deadline_jobs plan = if plan.deadline == 0 then [] else jobs.Expire ∷ []

-- each VM that is told of items, of 16 at most: a plug-in names it, and its module registers queues
abbrev pub registers_at : Option Bool → Bool
registers_at None = false
registers_at (Some registers) = registers

abbrev pub notice_of : Plan → ℕ → List Job
notice_of plan vm = if registers_at (slice_get plan.registers vm) then jobs.Notice vm 16 ∷ [] else []

abbrev pub notices_of : Plan → ℕ → List Job
notices_of plan zero = []
notices_of plan (suc n) = notices_of plan n ++ notice_of plan n

-- The callouts that are due when the event comes have failed, their ids rising, each in a part of the turn of its own.
abbrev pub fail_jobs : List ℕ → List Job
fail_jobs [] = []
fail_jobs (id ∷ ids) = call_job (steps.Fail id) ∷ fail_jobs ids

-- The jobs of the callouts that are due now, ids rising.
abbrev pub calls_due : Room → List Job
calls_due room = fail_jobs (due_at room.hub.moment room.calls)

-- The event. On the line of a callout it is of the one that is under way there when the event comes, if any; on any other it is of the lines.
abbrev pub comes_if : Option Callout → What → List Job
comes_if None what = []
comes_if (Some c) what = call_job (steps.Comes what) ∷ []

abbrev pub happening : What → Room → List Job
happening what room = if is_of_call (line_in what) then comes_if (callout_at (line_in what) room.calls) what else jobs.Happen what ∷ []

-- THE PARTS OF A TURN, in order: the start of the VMs, ticks, deadlines of exchanges, those of callouts, the event, notices
abbrev pub agenda_of : Plan → What → Room → List Job
agenda_of plan what room =
    start_jobs room ++ (ticks_due room ++ (deadline_jobs plan ++ (calls_due room ++ (happening what room ++ notices_of plan (vms_in room)))))

abbrev pub at_moment : ℕ → Room → Room
at_moment now room = record room { hub = record room.hub { moment = now } }

abbrev pub with_agenda : Plan → What → Room → Room
with_agenda plan what room = record room { agenda = agenda_of plan what room; is_begun = true }

abbrev pub room_for_event : Plan → Event → Room → Room
room_for_event plan event room = with_agenda plan event.what (at_moment event.now room)

-- so many steps a turn takes at most
abbrev pub most_steps : ℕ
most_steps = 18446744073709551615

-- the new state, and what is sent
pub record Outcome (H : Type 0) : Type 0 where
  pub state : Both H
  pub sent : List Sent

abbrev pub outcome : {H : Type 0} → Both H → List Sent → Outcome H
outcome state sent = record { state = state; sent = sent }

-- nothing is left to be sent
abbrev pub without_sent : Room → Room
without_sent room = record room { hub = record room.hub { sent = [] } }

-- what a turn comes to: neighbours that are bytes of one line and side are joined
abbrev pub outcome_of : {H : Type 0} → Both H → Outcome H
outcome_of b = outcome (both b.host (without_sent b.room)) (join_neighbours b.room.hub.sent)

module _ {H : Type 0} (calling : H → ℕ → Callback → ℕ → ℕ → ℕ → ℕ → Contexts → Program (Called H)) (plan : Plan) where
  -- WHAT A WORKER DOES AT AN EVENT: what it asks of the shared stores, what it reads, and what it comes to. At Stop it does nothing.
  abbrev pub turned : Both H → Event → Course (Outcome H)
  turned state event = then_do (settling calling plan most_steps state.host (room_for_event plan event state.room)) (λ b. ends (outcome_of b))

  abbrev pub turn_by : (stop : Bool) → Both H → Event → Course (Outcome H)
  turn_by true state event = ends (outcome state [])
  turn_by false state event = turned state event

  abbrev pub turn : Both H → Event → Course (Outcome H)
  turn state event = turn_by (is_stop event.what) state event
