-- WHY VMS DIE: a VM that is dead after a step and was not before it died in that step, by one of the causes that are told here, and no other VM did.
use Rattle.std.specs.Prelude.{◌≡◌, ℕ, Bool, true, false, List, [], ◌∷◌, ◌++◌, Option, None, Some, slice_get, if◌then◌else◌}
use Rattle.callouts.specs.Callouts.{callout_in}
use Rattle.callouts.specs.declared.types.Callout.{Callout}
use Rattle.callouts.specs.declared.types.CallStep.{CallStep}
use Rattle.callouts.specs.declared.types.CallStep.TheVariants as steps
use Rattle.contexts.specs.declared.parts.CallAnswer.{CallAnswer}
use Rattle.contexts.specs.Creating.{plugin_in}
use Rattle.filter_host.specs.Called.{Called, Calling}
use Rattle.filter_host.specs.Course.{ends, runs_then, Met, Reaches}
use Rattle.filter_host.specs.declared.host.Callback.{Callback}
use Rattle.filter_host.specs.declared.host.Callback.TheVariants as callbacks
use Rattle.filter_host.specs.declared.host.CallbackEnd.{CallbackEnd}
use Rattle.filter_host.specs.declared.host.CallbackEnd.TheVariants as call_ends
use Rattle.filter_host.specs.declared.host.Death.{Death}
use Rattle.exchange.specs.declared.types.Filter.{Filter}
use Rattle.exchange.specs.declared.types.Hub.{Hub}
use Rattle.gate_io.specs.declared.event.Event.{Event}
use Rattle.store_model.specs.Program.{Program}
use Rattle.worker_model.specs.Room.{Room}
use Rattle.worker_model.specs.declared.types.Asked.{Asked}
use Rattle.worker_model.specs.declared.types.Job.{Job}
use Rattle.worker_model.specs.declared.types.Job.TheVariants as jobs
use Rattle.worker_model.specs.declared.types.Line.{Line}
use Rattle.worker_model.specs.declared.types.NewContext.{NewContext}
use Rattle.worker_model.specs.declared.types.Next.{Next}
use Rattle.worker_model.specs.declared.types.Next.TheVariants as next
use Rattle.worker_model.specs.declared.types.OtherStep.{OtherStep}
use Rattle.worker_model.specs.declared.types.OtherStep.TheVariants as others
use Rattle.worker_model.specs.Calls.{answer_if, put_call_answer, has_listener, close_call}
use Rattle.worker_model.specs.Moves.{asks_at}
use Rattle.worker_model.specs.Plan.{Plan}
use Rattle.worker_model.specs.Rooms.{is_dead, next_of, with_lines}
use Rattle.worker_model.specs.Steps.{Both, both, callback_of, number_of, create_context, filter_at, is_drawn_out, is_zero, may_root, may_stream, plugin_length, create_root, step, tick_root, vm_length}
use Rattle.worker_model.specs.Turn.{without_sent, room_for_event}
use Rattle.law_flow.specs.Dead.{Runs, one_step, next_turn, watch_callbacks, refusing, one_vm, begins, started, passed_by}

-- ---- the callback of a step

-- a callback that is called: of which VM, with what, and in which room
pub record Callee : Type 0 where
  pub vm : ℕ
  pub name : Callback
  pub context : ℕ
  pub first : ℕ
  pub second : ℕ
  pub room : Room

abbrev pub callee : ℕ → Callback → ℕ → ℕ → ℕ → Room → Callee
callee vm name context first second room = record { vm = vm; name = name; context = context; first = first; second = second; room = room }

-- of a VM that is not dead
abbrev pub live_callee : ℕ → Callback → ℕ → ℕ → ℕ → Room → Option Callee
live_callee vm name context first second room = if is_dead vm room then None else Some (callee vm name context first second room)

-- the context that was made is told of its making
abbrev pub made_callee : Option NewContext × Room → Option Callee
made_callee (None, room) = None
made_callee (Some c, room) = live_callee c.vm callbacks.ContextCreate c.context c.root 0 room

abbrev pub ticked_callee : ℕ → ℕ → Bool × Room → Option Callee
ticked_callee vm root (due, room) = if due then live_callee vm callbacks.Tick root 0 0 room else None

abbrev pub ready_callee : ℕ → ℕ → ℕ → Room → Option Callee
ready_callee vm root queue room = if may_stream vm root room.hub.contexts then live_callee vm callbacks.QueueReady root queue 0 room else None

-- the context of a callout is told of its end, if it is there
abbrev pub told_callee : Option CallAnswer → Callout → Room → Option Callee
told_callee a c room = if has_listener c room then live_callee c.vm callbacks.CallAnswered c.context c.id 0 (put_call_answer a c.vm c.context room) else None

-- first its connection is closed
abbrev pub ended_callee : (is_answered : Bool) → ℕ → Option Callout → Room → Option Callee
ended_callee is_answered id None room = None
ended_callee is_answered id (Some c) room = told_callee (answer_if is_answered c) c (close_call id room)

-- of a step for a callout: only its end is told
abbrev pub call_callee : CallStep → Room → Option Callee
call_callee (steps.Comes what) room = None
call_callee (steps.Read id) room = None
call_callee (steps.Fail id) room = ended_callee false id (callout_in id room.calls) room
call_callee (steps.Answer id) room = ended_callee true id (callout_in id room.calls) room

-- of a step for other connections than those of HTTP exchanges
abbrev pub other_callee : OtherStep → Room → Option Callee
other_callee (others.Call step) room = call_callee step room
other_callee (others.Tcp step) room = None

abbrev pub job_callee : Job → Room → Option Callee
job_callee (jobs.Begin vm) room = live_callee vm callbacks.Begin 0 0 0 room
job_callee (jobs.Root vm plugin first) room = made_callee (create_root vm plugin first room)
job_callee (jobs.Start vm root) room = live_callee vm callbacks.VmStart root (vm_length vm room.hub.contexts) 0 room
job_callee (jobs.Configure vm root plugin) room = live_callee vm callbacks.Configure root (plugin_length plugin room.hub.contexts) 0 room
job_callee (jobs.Tick vm root) room = ticked_callee vm root (tick_root vm root room)
job_callee jobs.Expire room = None
job_callee (jobs.Happen what) room = None
job_callee (jobs.Create number k) room = made_callee (create_context number k room)
job_callee (jobs.Enter number) room = None
job_callee (jobs.Put number response items) room = None
job_callee (jobs.Refuse number status) room = None
job_callee (jobs.Done c) room = live_callee c.vm callbacks.Done c.context 0 0 room
job_callee (jobs.Log c) room = live_callee c.vm callbacks.Log c.context 0 0 room
job_callee (jobs.Delete c) room = live_callee c.vm callbacks.Delete c.context 0 0 room
job_callee (jobs.Close number stays) room = None
job_callee (jobs.Notice vm left) room = None
job_callee (jobs.Ready vm root queue) room = ready_callee vm root queue room
job_callee (jobs.Other step) room = other_callee step room

-- of the first job, which is in hand no more then
abbrev pub first_callee : List Job → Room → Option Callee
first_callee [] room = None
first_callee (job ∷ later) room = job_callee job (record room { jobs = later })

abbrev pub asked_callee : Room → Option Asked × List Line × Hub → Option Callee
asked_callee room (None, lines, hub) = None
asked_callee room (Some a, lines, hub) =
    Some (callee a.vm (callback_of a.response a.ask.kind) a.context a.count (number_of a.ask.end) (with_lines room (lines, hub)))

-- THE CALLBACK OF A STEP, if it calls one
abbrev pub step_callee : Next → Room → Option Callee
step_callee next.Read room = None
step_callee (next.Move place) room = asked_callee room (asks_at place (slice_get room.lines place) room.lines room.hub)
step_callee next.Work room = first_callee room.jobs room
step_callee (next.Free at) room = None
step_callee (next.End place) room = None
step_callee next.Begin room = None
step_callee next.Rest room = None

abbrev pub program_of : {H : Type 0} → Calling H → H → Callee → Program (Called H)
program_of calling host q = calling host q.vm q.name q.context q.first q.second q.room.hub.moment q.room.hub.contexts

-- what a step calls: nothing, and the machines are as they were; or its callback, which came to an end by what the step met, and then they are as it left them
pub data CallsBack {H : Type 0} (calling : Calling H) (nx : Next) (b : Both H) (ms : List Met) (m : Both H) : Type 0 where
  nothing : step_callee nx b.room ≡ None → m.host ≡ b.host → CallsBack calling nx b ms m
  callback : (q : Callee) (c : Called H) → step_callee nx b.room ≡ Some q → Reaches (runs_then (program_of calling b.host q) ends) ms (ends c) → m.host ≡ c.host → CallsBack calling nx b ms m

-- The step calls a callback of this VM, which by what the step met came to this end.
pub record CallbackEnds {H : Type 0} (calling : Calling H) (nx : Next) (b : Both H) (ms : List Met) (vm : ℕ) (end : CallbackEnd) : Type 0 where
  pub asked : Callee
  pub is : step_callee nx b.room ≡ Some asked
  pub of_vm : asked.vm ≡ vm
  pub came : Called H
  pub reached : Reaches (runs_then (program_of calling b.host asked) ends) ms (ends came)
  pub ended : came.end ≡ end

-- ---- the causes

-- WHAT KILLS A VM in a step
pub data Kills {H : Type 0} (calling : Calling H) (nx : Next) (b : Both H) (ms : List Met) (vm : ℕ) : Type 0 where
  -- the step's callback died, as by a trap or spent fuel: the machines say by what
  by_callback : (death : Death) → CallbackEnds calling nx b ms vm (call_ends.Died death) → Kills calling nx b ms vm
  -- its start answered 0
  by_start : (root : ℕ) (later : List Job) (value : Option ℕ) → nx ≡ next.Work → b.room.jobs ≡ jobs.Start vm root ∷ later → CallbackEnds calling nx b ms vm (call_ends.Returned value)
      → is_zero value ≡ true → Kills calling nx b ms vm
  -- the configuration of a plug-in of it answered 0
  by_configuration : (root plugin : ℕ) (later : List Job) (value : Option ℕ) → nx ≡ next.Work → b.room.jobs ≡ jobs.Configure vm root plugin ∷ later
      → CallbackEnds calling nx b ms vm (call_ends.Returned value) → is_zero value ≡ true → Kills calling nx b ms vm
  -- the root of a plug-in of it was to be made, and no id was left
  by_root : (plugin : ℕ) (first : Bool) (later : List Job) → nx ≡ next.Work → b.room.jobs ≡ jobs.Root vm plugin first ∷ later → may_root vm plugin b.room.hub.contexts ≡ true
      → is_drawn_out vm b.room.hub.contexts ≡ true → Kills calling nx b ms vm
  -- the context of a filter of it was to be made, and no id was left
  by_filter : (number k root : ℕ) (f : Filter) (later : List Job) → nx ≡ next.Work → b.room.jobs ≡ jobs.Create number k ∷ later → filter_at number k b.room.lines ≡ Some f → f.vm ≡ vm
      → (plugin_in b.room.hub.contexts f.plugin).root ≡ Some root → may_stream vm root b.room.hub.contexts ≡ true → is_drawn_out vm b.room.hub.contexts ≡ true
      → Kills calling nx b ms vm

-- who is dead after a step: those who were, and at most one VM more, of which this says what killed it
pub data DeadBehind {H : Type 0} (calling : Calling H) (nx : Next) (b : Both H) (ms : List Met) (m : Both H) : Type 0 where
  none_died : m.room.dead ≡ b.room.dead → DeadBehind calling nx b ms m
  one_died : (vm : ℕ) → Kills calling nx b ms vm → m.room.dead ≡ b.room.dead ++ vm ∷ [] → DeadBehind calling nx b ms m

-- EACH DEATH HAS ITS CAUSE: in any step, whatever is next and whatever the room. A VM that is dead after it and was not before was killed in it; of two VMs that are,
-- one was before, or they are one; and a VM that is killed in it is dead after it.
pub record DeathsHaveCauses (H : Type 0) : Type 0 where
  pub calls : (calling : Calling H) (plan : Plan) (nx : Next) (b m : Both H) (ms : List Met) → Reaches (step calling plan nx b.host b.room) ms (ends m) → CallsBack calling nx b ms m
  pub dead : (calling : Calling H) (plan : Plan) (nx : Next) (b m : Both H) (ms : List Met) → Reaches (step calling plan nx b.host b.room) ms (ends m) → DeadBehind calling nx b ms m
  pub causes : (calling : Calling H) (plan : Plan) (nx : Next) (b m : Both H) (ms : List Met) (vm : ℕ) → Reaches (step calling plan nx b.host b.room) ms (ends m)
      → is_dead vm b.room ≡ false → is_dead vm m.room ≡ true → Kills calling nx b ms vm
  pub one : (calling : Calling H) (plan : Plan) (nx : Next) (b m : Both H) (ms : List Met) (v w : ℕ) → Reaches (step calling plan nx b.host b.room) ms (ends m)
      → is_dead v b.room ≡ false → is_dead w b.room ≡ false → is_dead v m.room ≡ true → is_dead w m.room ≡ true → v ≡ w
  pub killed : (calling : Calling H) (plan : Plan) (nx : Next) (b m : Both H) (ms : List Met) (vm : ℕ) → Reaches (step calling plan nx b.host b.room) ms (ends m)
      → Kills calling nx b ms vm → is_dead vm m.room ≡ true

-- ---- over a life

-- one of these steps killed the VM, which was not dead before it
pub data KilledIn {H : Type 0} (calling : Calling H) (plan : Plan) (vm : ℕ) : (b e : Both H) → Runs calling plan b e → Type 0 where
  by_this : (b m e : Both H) (ms : List Met) (reaches : Reaches (step calling plan (next_of b.room) b.host b.room) ms (ends m)) (more : Runs calling plan m e)
      → is_dead vm b.room ≡ false → Kills calling (next_of b.room) b ms vm → KilledIn calling plan vm b e (one_step b m e ms reaches more)
  by_later : (b m e : Both H) (ms : List Met) (reaches : Reaches (step calling plan (next_of b.room) b.host b.room) ms (ends m)) (more : Runs calling plan m e)
      → KilledIn calling plan vm m e more → KilledIn calling plan vm b e (one_step b m e ms reaches more)
  in_turn : (b e : Both H) (event : Event) (more : Runs calling plan (both b.host (room_for_event plan event (without_sent b.room))) e)
      → KilledIn calling plan vm (both b.host (room_for_event plan event (without_sent b.room))) e more → KilledIn calling plan vm b e (next_turn b e event more)

-- OVER ANY STEPS OF ANY TURNS: a VM that is dead at their end and was not at their beginning was killed in one of these steps, before which it was not dead.
abbrev pub DeathsAreKillings : Type 0 → Type 0
DeathsAreKillings H = (calling : Calling H) (plan : Plan) (b e : Both H) (vm : ℕ) (runs : Runs calling plan b e) → is_dead vm b.room ≡ false → is_dead vm e.room ≡ true → KilledIn calling plan vm b e runs

-- ---- worked: the VM whose start answers 0

pub record DyingExample : Type 0 where
  pub next : next_of begins.room ≡ next.Work
  pub reached : Reaches (step (watch_callbacks refusing) one_vm (next_of begins.room) begins.host begins.room) [] (ends started)
  pub alive : is_dead 0 begins.room ≡ false
  pub dead : is_dead 0 started.room ≡ true
  pub kills : Kills (watch_callbacks refusing) (next_of begins.room) begins [] 0
  -- in the next step, which is to configure it, nothing is called, and nobody dies
  pub then_none : step_callee (next_of started.room) started.room ≡ None
  pub then_dead : passed_by.room.dead ≡ started.room.dead
