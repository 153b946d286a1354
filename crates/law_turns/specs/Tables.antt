-- Machines whose answers stand in a table, and which keep what was called of them.
use Rattle.std.specs.Prelude.{◌≡◌, ℕ, ◌==◌, ◌&&◌, List, [], ◌∷◌, ◌++◌, map, Option, None, Some, if◌then◌else◌}
use Rattle.contexts.specs.declared.parts.Contexts.{Contexts}
use Rattle.contexts.specs.declared.parts.Effect.{Effect}
use Rattle.filter_host.specs.Called.{Called, called_back}
use Rattle.filter_host.specs.Course.{Course, ends, Met, Reaches}
use Rattle.filter_host.specs.declared.host.CallbackEnd.{CallbackEnd}
use Rattle.filter_host.specs.declared.host.CallbackEnd.TheVariants.{Returned}
use Rattle.filter_host.specs.declared.host.Callback.{Callback}
use Rattle.filter_host.specs.declared.host.Callback.TheVariants as callbacks
use Rattle.gate_io.specs.declared.event.Sent.{Sent}
use Rattle.store_model.specs.Program.{Program, done}
use Rattle.worker_model.specs.Turn.{Outcome}
use Rattle.worker_model.specs.declared.types.Line.{Line}

-- a callback that was called: of which VM, for which context, and with which two numbers after it
pub record Call : Type 0 where
  pub vm : ℕ
  pub name : Callback
  pub context : ℕ
  pub first : ℕ
  pub second : ℕ

abbrev pub call_of : ℕ → Callback → ℕ → ℕ → ℕ → Call
call_of vm name context first second = record { vm = vm; name = name; context = context; first = first; second = second }

-- one of VM 0
abbrev pub call : Callback → ℕ → ℕ → ℕ → Call
call name context first second = call_of 0 name context first second

-- What a module answers that exports the callbacks of contexts, of heads, ticks and queues, and no other: Continue to heads, and 1 to
-- `done`. None stands for one that is not exported.
abbrev pub usual : Callback → Option (Option ℕ)
usual callbacks.Begin = None
usual callbacks.ContextCreate = Some None
usual callbacks.VmStart = None
usual callbacks.Configure = None
usual callbacks.Tick = Some None
usual callbacks.QueueReady = Some None
usual callbacks.RequestHeaders = Some (Some 0)
usual callbacks.RequestBody = None
usual callbacks.RequestTrailers = None
usual callbacks.ResponseHeaders = Some (Some 0)
usual callbacks.ResponseBody = None
usual callbacks.ResponseTrailers = None
usual callbacks.Done = Some (Some 1)
usual callbacks.Log = Some None
usual callbacks.Delete = Some None
usual callbacks.CallAnswered = None
usual callbacks.NewConnection = None
usual callbacks.DownstreamData = None
usual callbacks.UpstreamData = None
usual callbacks.DownstreamClose = None
usual callbacks.UpstreamClose = None

abbrev pub number_of : Callback → ℕ
number_of callbacks.Begin = 0
number_of callbacks.ContextCreate = 1
number_of callbacks.VmStart = 2
number_of callbacks.Configure = 3
number_of callbacks.Tick = 4
number_of callbacks.QueueReady = 5
number_of callbacks.RequestHeaders = 6
number_of callbacks.RequestBody = 7
number_of callbacks.RequestTrailers = 8
number_of callbacks.ResponseHeaders = 9
number_of callbacks.ResponseBody = 10
number_of callbacks.ResponseTrailers = 11
number_of callbacks.Done = 12
number_of callbacks.Log = 13
number_of callbacks.Delete = 14
number_of callbacks.CallAnswered = 15
number_of callbacks.NewConnection = 16
number_of callbacks.DownstreamData = 17
number_of callbacks.UpstreamData = 18
number_of callbacks.DownstreamClose = 19
number_of callbacks.UpstreamClose = 20

-- a row of the table: how a callback of a context ends, and its effects in the order of its calls
pub record Deed : Type 0 where
  pub name : Callback
  pub context : ℕ
  pub end : CallbackEnd
  pub effects : List Effect

abbrev pub deed_of : List Deed → Callback → ℕ → Option Deed
deed_of [] name context = None
deed_of (d ∷ deeds) name context = if (number_of d.name == number_of name) && (d.context == context) then Some d else deed_of deeds name context

-- what comes of a callback that is exported
abbrev pub done_by : Option Deed → Option ℕ → List Call → Contexts → Called (List Call)
done_by None value calls h = called_back (Returned value) [] calls h
done_by (Some d) value calls h = called_back d.end [] calls (record h { effects = d.effects })

-- one that is not exported does nothing
abbrev pub called_of : List Deed → Call → Option (Option ℕ) → List Call → Contexts → Called (List Call)
called_of deeds c None calls h = called_back (Returned None) [] calls h
called_of deeds c (Some value) calls h = done_by (deed_of deeds c.name c.context) value (calls ++ c ∷ []) h

-- THE MACHINES OF A TABLE: their state is what was called so far
abbrev pub calling_by : List Deed → List Call → ℕ → Callback → ℕ → ℕ → ℕ → ℕ → Contexts → Program (Called (List Call))
calling_by deeds calls vm name context first second now h = done (called_of deeds (call_of vm name context first second) (usual name) calls h)

-- The course meets these and comes to its end. Then these callbacks were called, this is sent, and these lines are open.
pub record Comes (course : Course (Outcome (List Call))) (met : List Met) (calls : List Call) (sent : List Sent) (lines : List ℕ) : Type 0 where
  pub end : Outcome (List Call)
  pub reaches : Reaches course met (ends end)
  pub called : end.state.host ≡ calls
  pub hands_over : end.sent ≡ sent
  pub leaves : map (λ (l : Line). l.number) end.state.room.lines ≡ lines
