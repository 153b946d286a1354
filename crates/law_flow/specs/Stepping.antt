-- THE STEPS OF A WORKER, as a direction sees them.
use Rattle.std.specs.Prelude.{◌≡◌, ℕ, Bool, true, false, not, List, [], ◌∷◌, map, Option, None, Some, slice_get}
use Rattle.callouts.specs.Callouts.{callout_in}
use Rattle.callouts.specs.declared.types.Callout.{Callout}
use Rattle.callouts.specs.declared.types.CallStep.TheVariants as steps
use Rattle.filter_host.specs.Called.{Called, Calling}
use Rattle.filter_host.specs.Course.{ends, runs_then, Met, Reaches}
use Rattle.filter_host.specs.Heard.{Heard, Hears}
use Rattle.filter_host.specs.declared.host.Callback.{Callback}
use Rattle.filter_host.specs.declared.host.Callback.TheVariants as callbacks
use Rattle.filter_host.specs.declared.host.CallbackEnd.TheVariants as call_ends
use Rattle.filter_host.specs.declared.host.Death.{Death}
use Rattle.exchange.specs.declared.types.Exchange.{Exchange}
use Rattle.exchange.specs.declared.types.Filter.{Filter}
use Rattle.exchange.specs.declared.types.Hub.{Hub}
use Rattle.exchange.specs.Passing.{chain_of, expire_exchange, fails_closed}
use Rattle.filter_chain.specs.declared.item.ChainItem.{ChainItem}
use Rattle.gate_io.specs.declared.event.What.{What}
use Rattle.h1_model.specs.Unread.{Reading}
use Rattle.worker_model.specs.Room.{Room}
use Rattle.worker_model.specs.declared.types.Asked.{Asked}
use Rattle.worker_model.specs.declared.types.ContextAt.{ContextAt}
use Rattle.worker_model.specs.declared.types.Job.{Job}
use Rattle.worker_model.specs.declared.types.Job.TheVariants as jobs
use Rattle.worker_model.specs.declared.types.Line.{Line}
use Rattle.worker_model.specs.declared.types.NewContext.{NewContext}
use Rattle.worker_model.specs.declared.types.Next.{Next}
use Rattle.worker_model.specs.declared.types.Next.TheVariants as next
use Rattle.worker_model.specs.declared.types.OtherStep.TheVariants as others
use Rattle.worker_model.specs.declared.types.Owner.TheVariants as owns
use Rattle.worker_model.specs.declared.types.ReadBatch.{ReadBatch}
use Rattle.worker_model.specs.declared.types.TcpStep.{TcpStep}
use Rattle.worker_model.specs.Calls.{answer_if, put_call_answer, has_listener, close_call}
use Rattle.worker_model.specs.Moves.{asks_at}
use Rattle.worker_model.specs.Plan.{Plan}
use Rattle.worker_model.specs.Rooms.{place_in, with_lines}
use Rattle.worker_model.specs.Steps.{Both, is_zero, vm_length, plugin_length, tick_root, is_drawn_out, create_root, filter_at, create_context, reading_on, step}
use Rattle.law_body.specs.Apart.{AreAliens}
use Rattle.law_flow.specs.Besides.{OthersAreAlien, IsWhole}
use Rattle.law_chain.specs.Acts.{HoldSame, AreThere, NotOf}
use Rattle.law_body.specs.Deeds.{comes, AreDeeds}
use Rattle.law_flow.specs.Deaths.{NoneOf}
use Rattle.law_flow.specs.Dying.{Callee, job_callee, program_of}
use Rattle.law_flow.specs.Elsewhere.{IsBeside, behind_effects, asked_program, IsElsewhere, IsAcross}
use Rattle.law_flow.specs.Events.{LosesNone}
use Rattle.law_flow.specs.Readings.{HearsNone}
use Rattle.law_flow.specs.Rooms.{IsOn, running_of, IsAsked, Meanwhile}
use Rattle.law_flow.specs.Steps.{callback_program}

-- the room once the first job is in hand
abbrev pub in_hand : List Job → Room → Room
in_hand later room = record room { jobs = later }

-- every end of this callback of no stage is one that may be
abbrev pub Tells : {H : Type 0} → Calling H → Bool → ℕ → ℕ → Exchange → H → List Met → Room → ℕ → Callback → ℕ → ℕ → Type 0
Tells calling response n count x host ms room vm name context first =
    (c : Called _) → Reaches (runs_then (calling host vm name context first 0 room.hub.moment room.hub.contexts) ends) ms (ends c)
    → IsBeside response n count vm owns.Nobody c x room

-- the same, with what is to hold after it
abbrev pub TellsThen : {H : Type 0} → Calling H → Bool → ℕ → ℕ → Exchange → H → List Met → Room → ℕ → Callback → ℕ → ℕ → (Option ℕ → Exchange → Room → Type 0) → Type 0
TellsThen calling response n count x host ms room vm name context first Holds =
    (c : Called _) → Reaches (runs_then (calling host vm name context first 0 room.hub.moment room.hub.contexts) ends) ms (ends c)
    → (e : IsBeside response n count vm owns.Nobody c x room)
    × ((z : Exchange) → IsOn n (behind_effects vm owns.Nobody c room) z → IsWhole response z (behind_effects vm owns.Nobody c room) × Holds e.value z (behind_effects vm owns.Nobody c room))

-- A CALLBACK THAT DIED, as the exchange and the room are when it comes: the exchange has no stage of its VM, and no filter that fails closed by that; what the callback did
-- before left what the direction's stages hold as it was; and the exchanges of all other lines have other stages.
pub record DiesBeside {H : Type 0} (response : Bool) (n vm : ℕ) (c : Called H) (x : Exchange) (room : Room) : Type 0 where
  pub death : Death
  pub ended : c.end ≡ call_ends.Died death
  pub holds : HoldSame room.hub.contexts c.contexts (chain_of response x)
  pub there : AreThere c.contexts (chain_of response x)
  pub alien : (on : IsOn n room x) → OthersAreAlien (chain_of response x) on.place room
  pub opens : fails_closed vm x ≡ false
  pub of_request : NoneOf vm x.request
  pub of_response : NoneOf vm x.response

-- WHERE A VM DIES BEHIND THE EFFECTS of its callback, as an exchange on the line and the room are then: the contexts of the direction's stages are there, the exchanges of all
-- other lines have other stages, and the exchange has no stage of the VM, and no filter that fails closed by that.
pub record OutlivesBeside (response : Bool) (n vm : ℕ) (z : Exchange) (room : Room) (on : IsOn n room z) : Type 0 where
  pub whole : IsWhole response z room
  pub alien : OthersAreAlien (chain_of response z) on.place room
  pub opens : fails_closed vm z ≡ false
  pub of_request : NoneOf vm z.request
  pub of_response : NoneOf vm z.response

-- every end of this callback of no stage is one that may be, and it returned 0, so that its VM dies after its effects
abbrev pub TellsZero : {H : Type 0} → Calling H → Bool → ℕ → ℕ → Exchange → H → List Met → Room → ℕ → Callback → ℕ → ℕ → Type 0
TellsZero calling response n count x host ms room vm name context first =
    (c : Called _) → Reaches (runs_then (calling host vm name context first 0 room.hub.moment room.hub.contexts) ends) ms (ends c)
    → (e : IsBeside response n count vm owns.Nobody c x room)
    × (is_zero e.value ≡ true)
    × ((z : Exchange) (on : IsOn n (behind_effects vm owns.Nobody c room) z) → OutlivesBeside response n vm z (behind_effects vm owns.Nobody c room) on)

-- THE END OF A CALLOUT: once its connection is closed, and its answer put where its context finds it, every end of that callback is one that may be. Where none is under way with
-- that id, or its context is there no more, nobody is told.
abbrev pub TellsCall : {H : Type 0} → Calling H → Bool → ℕ → ℕ → Exchange → H → List Met → Room → (is_answered : Bool) → ℕ → Type 0
TellsCall calling response n count x host ms room is_answered id =
    (c : Callout) → callout_in id room.calls ≡ Some c → has_listener c (close_call id room) ≡ true
    → TellsThen calling response n count x host ms (put_call_answer (answer_if is_answered c) c.vm c.context (close_call id room)) c.vm callbacks.CallAnswered c.context c.id (λ value z r. Unit {0})

-- A JOB that is none of the direction
pub data MayJob {H : Type 0} (calling : Calling H) (response : Bool) (n count : ℕ) (x : Exchange) (host : H) (ms : List Met) (room : Room) : Job → Type 0 where
  begin : (vm : ℕ) → Tells calling response n count x host ms room vm callbacks.Begin 0 0 → MayJob calling response n count x host ms room (jobs.Begin vm)
  root : (vm plugin : ℕ) (first : Bool) → is_drawn_out vm room.hub.contexts ≡ false
      → ((c : NewContext) → (create_root vm plugin first room).0 ≡ Some c → Tells calling response n count x host ms (create_root vm plugin first room).1 c.vm callbacks.ContextCreate c.context c.root)
      → MayJob calling response n count x host ms room (jobs.Root vm plugin first)
  start : (vm at : ℕ) → TellsThen calling response n count x host ms room vm callbacks.VmStart at (vm_length vm room.hub.contexts) (λ value z r. is_zero value ≡ false)
      → MayJob calling response n count x host ms room (jobs.Start vm at)
  configure : (vm at plugin : ℕ)
      → TellsThen calling response n count x host ms room vm callbacks.Configure at (plugin_length plugin room.hub.contexts) (λ value z r. is_zero value ≡ false)
      → MayJob calling response n count x host ms room (jobs.Configure vm at plugin)
  tick : (vm at : ℕ) → Tells calling response n count x host ms (tick_root vm at room).1 vm callbacks.Tick at 0 → MayJob calling response n count x host ms room (jobs.Tick vm at)
  expire : (on : IsOn n room x) → OthersAreAlien (chain_of response x) on.place room → ((hub : Hub) → hub.moment ≡ room.hub.moment → expire_exchange n x hub ≡ (x, hub)) → MayJob calling response n count x host ms room jobs.Expire
  happen : (w : What) (on : IsOn n room x) → OthersAreAlien (chain_of response x) on.place room → LosesNone w n on.place room → MayJob calling response n count x host ms room (jobs.Happen w)
  create : (number k : ℕ) → ((f : Filter) → filter_at number k room.lines ≡ Some f → is_drawn_out f.vm room.hub.contexts ≡ false)
      → ((c : NewContext) (y : Exchange) → (create_context number k room).0 ≡ Some c → IsOn n (create_context number k room).1 y
      → Tells calling response n count y host ms (create_context number k room).1 c.vm callbacks.ContextCreate c.context c.root)
      → MayJob calling response n count x host ms room (jobs.Create number k)
  enter : (number : ℕ) (on : IsOn n room x) → (place_in number room.lines ≡ Some on.place → ⊥) → MayJob calling response n count x host ms room (jobs.Enter number)
  put_across : (items : List ChainItem) → x.is_answered ≡ false → AreDeeds (not response) n 0 (map comes items) (running_of None x room)
      → MayJob calling response n count x host ms room (jobs.Put n (not response) items)
  put_elsewhere : (number : ℕ) (of_response : Bool) (items : List ChainItem) (on : IsOn n room x) → OthersAreAlien (chain_of response x) on.place room
      → (place_in number room.lines ≡ Some on.place → ⊥) → MayJob calling response n count x host ms room (jobs.Put number of_response items)
  refuse : (number status : ℕ) (on : IsOn n room x) → OthersAreAlien (chain_of response x) on.place room → (number ≡ n → ⊥) → MayJob calling response n count x host ms room (jobs.Refuse number status)
  done : (c : ContextAt) → TellsThen calling response n count x host ms room c.vm callbacks.Done c.context 0 (λ value z r. Unit {0}) → MayJob calling response n count x host ms room (jobs.Done c)
  log : (c : ContextAt) → Tells calling response n count x host ms room c.vm callbacks.Log c.context 0 → MayJob calling response n count x host ms room (jobs.Log c)
  delete : (c : ContextAt) → NotOf c.vm c.context (chain_of response x)
      → TellsThen calling response n count x host ms room c.vm callbacks.Delete c.context 0 (λ value z r. NotOf c.vm c.context (chain_of response z))
      → MayJob calling response n count x host ms room (jobs.Delete c)
  close : (number : ℕ) (stays : Bool) → (number ≡ n → ⊥) → MayJob calling response n count x host ms room (jobs.Close number stays)
  notice : (vm left : ℕ) → MayJob calling response n count x host ms room (jobs.Notice vm left)
  ready : (vm at queue : ℕ) → Tells calling response n count x host ms room vm callbacks.QueueReady at queue → MayJob calling response n count x host ms room (jobs.Ready vm at queue)
  -- what comes of the line of a callout, and what its reader says
  call_comes : (w : What) → MayJob calling response n count x host ms room (jobs.Other (others.Call (steps.Comes w)))
  call_read : (id : ℕ) → MayJob calling response n count x host ms room (jobs.Other (others.Call (steps.Read id)))
  call_fails : (id : ℕ) → TellsCall calling response n count x host ms room false id → MayJob calling response n count x host ms room (jobs.Other (others.Call (steps.Fail id)))
  call_answered : (id : ℕ) → TellsCall calling response n count x host ms room true id → MayJob calling response n count x host ms room (jobs.Other (others.Call (steps.Answer id)))
  tcp_step : (s : TcpStep) → MayJob calling response n count x host ms room (jobs.Other (others.Tcp s))
  -- any one whose callback died
  dies_at_work : (job : Job) (q : Callee) → job_callee job room ≡ Some q
      → ((c : Called H) (y : Exchange) → Reaches (runs_then (program_of calling host q) ends) ms (ends c) → IsOn n q.room y → DiesBeside response n q.vm c y q.room)
      → MayJob calling response n count x host ms room job
  -- a start or a configuration that returned 0, after which the VM is dead
  start_refused : (vm at : ℕ) → TellsZero calling response n count x host ms room vm callbacks.VmStart at (vm_length vm room.hub.contexts)
      → MayJob calling response n count x host ms room (jobs.Start vm at)
  configure_refused : (vm at plugin : ℕ) → TellsZero calling response n count x host ms room vm callbacks.Configure at (plugin_length plugin room.hub.contexts)
      → MayJob calling response n count x host ms room (jobs.Configure vm at plugin)

pub data MayWork {H : Type 0} (calling : Calling H) (response : Bool) (n count : ℕ) (x : Exchange) (host : H) (ms : List Met) (room : Room) : List Job → Type 0 where
  no_job : MayWork calling response n count x host ms room []
  first_job : (job : Job) (later : List Job) → MayJob calling response n count x host ms (in_hand later room) job → MayWork calling response n count x host ms room (job ∷ later)

-- A STEP that is none of the direction: readings that begin no exchange on the line, moves of the other direction and of other lines, jobs, and ends of
-- other exchanges
pub data MayBeside {H : Type 0} (calling : Calling H) (response : Bool) (n count : ℕ) (x : Exchange) (b : Both H) (ms : List Met) : Next → Type 0 where
  reads : (on : IsOn n b.room x)
      → ((r : ReadBatch) (reading : Reading) (h : Heard) → b.room.reading ≡ Some r → reading_on r b.room ≡ Some reading → Hears reading h → HearsNone r on.place b.room h)
      → MayBeside calling response n count x b ms next.Read
  moves_across : (q : IsAsked (not response) n x b.room) → AreAliens (chain_of response x) (chain_of (not response) x)
      → ((c : Called H) → Reaches (runs_then (callback_program calling b.host q) ends) ms (ends c) → IsAcross response count q c)
      → MayBeside calling response n count x b ms (next.Move q.on.place)
  moves_elsewhere : (place : ℕ) (on : IsOn n b.room x) → OthersAreAlien (chain_of response x) on.place b.room → (place ≡ on.place → ⊥)
      → ((a : Asked) (lines : List Line) (hub : Hub) (c : Called H) → asks_at place (slice_get b.room.lines place) b.room.lines b.room.hub ≡ (Some a, lines, hub)
      → Reaches (runs_then (asked_program calling b.host a (with_lines b.room (lines, hub))) ends) ms (ends c)
      → IsElsewhere response n count a c x (with_lines b.room (lines, hub)))
      → MayBeside calling response n count x b ms (next.Move place)
  -- of another line, where the callback died
  dies_elsewhere : (place : ℕ) (on : IsOn n b.room x) → OthersAreAlien (chain_of response x) on.place b.room → (place ≡ on.place → ⊥)
      → ((a : Asked) (lines : List Line) (hub : Hub) (c : Called H) → asks_at place (slice_get b.room.lines place) b.room.lines b.room.hub ≡ (Some a, lines, hub)
      → Reaches (runs_then (asked_program calling b.host a (with_lines b.room (lines, hub))) ends) ms (ends c) → DiesBeside response n a.vm c x (with_lines b.room (lines, hub)))
      → MayBeside calling response n count x b ms (next.Move place)
  works : MayWork calling response n count x b.host ms b.room b.room.jobs → MayBeside calling response n count x b ms next.Work
  frees : (at : ℕ) → MayBeside calling response n count x b ms (next.Free at)
  ends_other : (place : ℕ) (on : IsOn n b.room x) → OthersAreAlien (chain_of response x) on.place b.room → (place ≡ on.place → ⊥) → MayBeside calling response n count x b ms (next.End place)
  begins : MayBeside calling response n count x b ms next.Begin
  stops : MayBeside calling response n count x b ms next.Rest

-- STEPS BESIDE resume stages of the direction, or leave it as it was.
abbrev pub StepsBeside : Type 0 → Type 0
StepsBeside H = (calling : Calling H) (plan : Plan) (response : Bool) (n count : ℕ) (x : Exchange) (b m : Both H) (ms : List Met) (nx : Next) → IsOn n b.room x → IsWhole response x b.room
    → MayBeside calling response n count x b ms nx → Reaches (step calling plan nx b.host b.room) ms (ends m) → (y : Exchange) × Meanwhile response n count x b.room y m.room
