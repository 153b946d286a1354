-- THE DEAD ARE CALLED NO MORE: from the moment a VM is dead, by whatever cause, no callback of it comes.
use Rattle.std.specs.Prelude.{◌≡◌, ℕ, Bool, true, List, [], ◌∷◌, ◌++◌, Option, None, Some}
use Rattle.contexts.specs.declared.parts.Contexts.{Contexts}
use Rattle.filter_host.specs.Called.{Called, Calling, called_back}
use Rattle.filter_host.specs.Course.{Course, ends, asks, measures, hears, Met, Reaches}
use Rattle.filter_host.specs.declared.host.CallbackEnd.TheVariants as call_ends
use Rattle.filter_host.specs.declared.host.Death.{Death}
use Rattle.exchange.specs.declared.types.Filter.{Filter}
use Rattle.exchange.specs.Examples as exchanges
use Rattle.gate_io.specs.declared.event.Event.{Event}
use Rattle.gate_io.specs.declared.event.Sent.{Sent}
use Rattle.store_model.specs.Program.{Program, done, ask, measure}
use Rattle.worker_model.specs.Room.{Room}
use Rattle.worker_model.specs.declared.types.Job.TheVariants as jobs
use Rattle.worker_model.specs.declared.types.Owner.{Owner}
use Rattle.worker_model.specs.Plan.{Plan}
use Rattle.worker_model.specs.Rooms.{next_of, is_dead, take_callback_end}
use Rattle.worker_model.specs.Steps.{Both, both, is_zero, unless_zero, is_drawn_out, may_root, create_root, may_stream, create_stream, step}
use Rattle.worker_model.specs.Turn.{without_sent, room_for_event}

-- ---- machines that are watched

-- machines, and the numbers of the VMs of which callbacks were called, in order
pub record Watched (H : Type 0) : Type 0 where
  pub host : H
  pub calls : List ℕ

abbrev pub watching : {H : Type 0} → H → List ℕ → Watched H
watching host calls = record { host = host; calls = calls }

-- a callback's program, with these as what was called at its end
abbrev pub noted_by : {H : Type 0} → List ℕ → Program (Called H) → Program (Called (Watched H))
noted_by calls (done c) = done (called_back c.end c.lines (watching c.host calls) c.contexts)
noted_by calls (ask vm call k) = ask vm call (λ r. noted_by calls (k r))
noted_by calls (measure vm asked k) = measure vm asked (λ r. noted_by calls (k r))

-- they do what these machines do, and note of which VM each callback is
abbrev pub watch_callbacks : {H : Type 0} → Calling H → Calling (Watched H)
watch_callbacks calling w vm name context first second now h = noted_by (w.calls ++ vm ∷ []) (calling w.host vm name context first second now h)

-- ---- a life, step by step and turn by turn

pub data Runs {H : Type 0} (calling : Calling H) (plan : Plan) : Both H → Both H → Type 0 where
  no_step : (b : Both H) → Runs calling plan b b
  one_step : (b m e : Both H) (ms : List Met) → Reaches (step calling plan (next_of b.room) b.host b.room) ms (ends m) → Runs calling plan m e → Runs calling plan b e
  next_turn : (b e : Both H) (event : Event) → Runs calling plan (both b.host (room_for_event plan event (without_sent b.room))) e → Runs calling plan b e

-- none of them is this VM
abbrev pub NoneIs : ℕ → List ℕ → Type 0
NoneIs vm [] = Unit {0}
NoneIs vm (w ∷ more) = (w ≡ vm → ⊥) × NoneIs vm more

-- what was called since is of other VMs
pub record CalledOthers (vm : ℕ) (before after : List ℕ) : Type 0 where
  pub more : List ℕ
  pub is : after ≡ before ++ more
  pub others : NoneIs vm more

-- FROM A WORKER WITHOUT LINES, as each begins, by any steps of any turns to a state in which a VM is dead, and from there by any more: that VM is dead still,
-- and each callback that was called since is of another VM.
pub record StaysUncalled {H : Type 0} (vm : ℕ) (b e : Both (Watched H)) : Type 0 where
  pub dead : is_dead vm e.room ≡ true
  pub called : CalledOthers vm b.host.calls e.host.calls

abbrev pub TheDeadAreCalledNoMore : Type 0 → Type 0
TheDeadAreCalledNoMore H = (calling : Calling H) (plan : Plan) (a b e : Both (Watched H)) (vm : ℕ) → a.room.lines ≡ [] → Runs (watch_callbacks calling) plan a b → is_dead vm b.room ≡ true
    → Runs (watch_callbacks calling) plan b e → StaysUncalled vm b e

-- BY WHATEVER CAUSE: a callback that trapped or spent its fuel; a start or a configuration that answered 0; no id that is left for a root or a stream
pub record VmsDie : Type 0 where
  pub callbacks : (vm : ℕ) (own : Owner) (death : Death) (lines : List Sent) (h : Contexts) (room : Room) → is_dead vm (take_callback_end vm own (call_ends.Died death) lines h room) ≡ true
  pub starts : (vm : ℕ) (value : Option ℕ) (death : Death) (room : Room) → is_zero value ≡ true → is_dead vm (unless_zero vm death (Some value) room) ≡ true
  pub roots : (vm plugin : ℕ) (first : Bool) (room : Room) → may_root vm plugin room.hub.contexts ≡ true → is_drawn_out vm room.hub.contexts ≡ true
      → is_dead vm (create_root vm plugin first room).1 ≡ true
  pub streams : (number k root : ℕ) (f : Filter) (room : Room) → may_stream f.vm root room.hub.contexts ≡ true → is_drawn_out f.vm room.hub.contexts ≡ true
      → is_dead f.vm (create_stream number k f (Some root) room).1 ≡ true

-- ---- worked: a VM whose start answers 0, and is to be configured then

-- every callback answers 0
abbrev pub refusing : Calling ℕ
refusing host vm name context first second now h = done (called_back (call_ends.Returned (Some 0)) [] host h)

abbrev pub one_vm : Plan
one_vm = record { routes = []; plugins = []; vms = 1; deadline = 0; bodies = []; registers = []; tcp = [] }

-- VM 0 starts at its root, context 1, and its plug-in is configured then
abbrev pub begins : Both (Watched ℕ)
begins = both (watching 0 []) (record {
  lines = [];
  hub = exchanges.hub_of exchanges.host;
  reading = None;
  jobs = jobs.Start 0 1 ∷ jobs.Configure 0 1 0 ∷ [];
  agenda = [];
  waits = [];
  dead = [];
  is_begun = true;
  calls = [];
  tcp = [];
})

-- the next step, where that meets nothing
abbrev pub end_by : Both (Watched ℕ) → Course (Both (Watched ℕ)) → Both (Watched ℕ)
end_by b (ends e) = e
end_by b (asks vm call k) = b
end_by b (measures vm call k) = b
end_by b (hears r k) = b

abbrev pub stepped : Both (Watched ℕ) → Both (Watched ℕ)
stepped b = end_by b (step (watch_callbacks refusing) one_vm (next_of b.room) b.host b.room)

abbrev pub started : Both (Watched ℕ)
started = stepped begins

abbrev pub passed_by : Both (Watched ℕ)
passed_by = stepped started

pub record UncalledExample : Type 0 where
  pub starts : Runs (watch_callbacks refusing) one_vm begins started
  pub is_dead : is_dead 0 started.room ≡ true
  pub started_calls : started.host.calls ≡ 0 ∷ []
  -- its plug-in is not configured any more
  pub goes_on : Runs (watch_callbacks refusing) one_vm started passed_by
  pub no_jobs : passed_by.room.jobs ≡ []
  pub then_calls : passed_by.host.calls ≡ 0 ∷ []
