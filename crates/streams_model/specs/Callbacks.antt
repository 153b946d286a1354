-- A CALLBACK AND WHAT COMES OF IT, whatever the lines of a worker carry. It is told by what the end of a callback does to the worker, and by what the
-- death of a VM does.
use Rattle.std.specs.Prelude.{ℕ, Bool, true, false, List, Option, None, Some, if◌then◌else◌}
use Rattle.callouts.specs.Callouts.{callout_in}
use Rattle.callouts.specs.declared.types.Callout.{Callout}
use Rattle.callouts.specs.declared.types.CallStep.{CallStep}
use Rattle.callouts.specs.declared.types.CallStep.TheVariants as steps
use Rattle.contexts.specs.declared.parts.CallAnswer.{CallAnswer}
use Rattle.contexts.specs.declared.parts.Contexts.{Contexts}
use Rattle.filter_host.specs.Called.{Calling}
use Rattle.filter_host.specs.Course.{Course, ends, runs_then, then_do}
use Rattle.filter_host.specs.declared.host.Callback.{Callback}
use Rattle.filter_host.specs.declared.host.Callback.TheVariants as callbacks
use Rattle.filter_host.specs.declared.host.CallbackEnd.{CallbackEnd}
use Rattle.filter_host.specs.declared.host.Death.{Death}
use Rattle.gate_io.specs.declared.event.Sent.{Sent}
use Rattle.worker_model.specs.Calls.{take_call_event, answer_if, put_call_answer, has_listener, close_call}
use Rattle.worker_model.specs.Room.{Room}
use Rattle.worker_model.specs.Rooms.{is_dead, value_of_end}
use Rattle.worker_model.specs.Steps.{Both, both, Answered, callback_result, Then, continue_with, nothing_more, is_zero, finish_context, delete_context, may_stream, tick_root, reads_call, drop_answer}
use Rattle.worker_model.specs.declared.types.ContextAt.{ContextAt}
use Rattle.worker_model.specs.declared.types.NewContext.{NewContext}
use Rattle.worker_model.specs.declared.types.Owner.{Owner}
use Rattle.worker_model.specs.declared.types.Owner.TheVariants.{Nobody}

-- What the end of a callback does: of a VM, whose callback it is, how it ended, what it wrote into the log, and the contexts then.
abbrev pub Takes : Type 0
Takes = ℕ → Owner → CallbackEnd → List Sent → Contexts → Room → Room

-- What the death of a VM does.
abbrev pub Loses : Type 0
Loses = ℕ → Death → Room → Room

-- the VM is dead where it answered 0
abbrev pub unless_zero : Loses → ℕ → Death → Then
unless_zero loses vm death None room = room
unless_zero loses vm death (Some value) room = if is_zero value then loses vm death room else room

module _ (takes : Takes) {H : Type 0} (calling : Calling H) where
  -- EVERY CALLBACK: it writes into the log; its effects are done then, or its VM is dead
  abbrev pub called_in : ℕ → Callback → ℕ → ℕ → ℕ → Owner → H → Room → Course (Answered H)
  called_in vm name context first second own host room =
      runs_then (calling host vm name context first second room.hub.moment room.hub.contexts)
      (λ c. ends (callback_result (value_of_end c.end) (both c.host (takes vm own c.end c.lines c.contexts room))))

  -- no callback comes of a VM that died
  abbrev pub called_live : ℕ → Callback → ℕ → ℕ → ℕ → H → Room → Course (Answered H)
  called_live vm name context first second host room =
      if is_dead vm room then ends (callback_result None (both host room)) else called_in vm name context first second Nobody host room

  -- a callback of no stage, and what comes after it
  abbrev pub calls_live : ℕ → Callback → ℕ → ℕ → ℕ → Then → H → Room → Course (Both H)
  calls_live vm name context first second later host room =
      then_do (called_live vm name context first second host room) (λ a. ends (continue_with later a))

  -- a callback whose answer says nothing
  abbrev pub tells : ℕ → Callback → ℕ → ℕ → H → Room → Course (Both H)
  tells vm name context first host room = calls_live vm name context first 0 nothing_more host room

  -- one after which the VM is dead where it answered 0
  abbrev pub starts : Loses → ℕ → Callback → ℕ → ℕ → Death → H → Room → Course (Both H)
  starts loses vm name root size death host room = calls_live vm name root size 0 (unless_zero loses vm death) host room

  -- A context is done with.
  abbrev pub finishes : ContextAt → H → Room → Course (Both H)
  finishes c host room = calls_live c.vm callbacks.Done c.context 0 0 (finish_context c) host room

  -- A context is deleted.
  abbrev pub forgets : ContextAt → H → Room → Course (Both H)
  forgets c host room = calls_live c.vm callbacks.Delete c.context 0 0 (delete_context c) host room

  -- the context that was made is told of its making, and of its root
  abbrev pub made_one : Option NewContext → H → Room → Course (Both H)
  made_one None host room = ends (both host room)
  made_one (Some c) host room = tells c.vm callbacks.ContextCreate c.context c.root host room

  -- the same where the room is this then
  abbrev pub made_with : H → Option NewContext × Room → Course (Both H)
  made_with host (c, room) = made_one c host room

  -- a root that is due
  abbrev pub ticks_with : ℕ → ℕ → H → Bool × Room → Course (Both H)
  ticks_with vm root host (due, room) = if due then tells vm callbacks.Tick root 0 host room else ends (both host room)

  -- A root is called if it is due.
  abbrev pub ticks : ℕ → ℕ → H → Room → Course (Both H)
  ticks vm root host room = ticks_with vm root host (tick_root vm root room)

  -- a root is told of an item in a queue
  abbrev pub tells_ready : ℕ → ℕ → ℕ → H → Room → Course (Both H)
  tells_ready vm root queue host room =
      if may_stream vm root room.hub.contexts then tells vm callbacks.QueueReady root queue host room else ends (both host room)

  -- ITS CONTEXT IS TOLD of the end of a callout, and of the answer, if there is one
  abbrev pub tells_call : Option CallAnswer → Callout → H → Room → Course (Both H)
  tells_call a c host room =
      if has_listener c room
      then calls_live c.vm callbacks.CallAnswered c.context c.id 0 (drop_answer c.vm c.context) host (put_call_answer a c.vm c.context room)
      else ends (both host room)

  -- THE CALLOUT OF AN ID WAS ANSWERED, or has failed: first its connection is closed
  abbrev pub ends_call : (is_answered : Bool) → ℕ → Option Callout → H → Room → Course (Both H)
  ends_call is_answered id None host room = ends (both host room)
  ends_call is_answered id (Some c) host room = tells_call (answer_if is_answered c) c host (close_call id room)

  -- A step of a callout is worked.
  abbrev pub works_call : CallStep → H → Room → Course (Both H)
  works_call (steps.Comes what) host room = ends (both host (take_call_event what room))
  works_call (steps.Read id) host room = reads_call id (callout_in id room.calls) host room
  works_call (steps.Fail id) host room = ends_call false id (callout_in id room.calls) host room
  works_call (steps.Answer id) host room = ends_call true id (callout_in id room.calls) host room
