-- OVER TURNS, and over the whole life of a worker whose lines are HTTP.
use Rattle.std.specs.Prelude.{◌≡◌, ℕ, List, None}
use Rattle.contexts.specs.declared.parts.Contexts.{Contexts}
use Rattle.filter_host.specs.Course.{ends, Met, Reaches}
use Rattle.filter_host.specs.declared.host.Callback.{Callback}
use Rattle.gate_config.specs.declared.entries.VmEntry.{VmEntry}
use Rattle.gate_io.specs.declared.event.Event.{Event}
use Rattle.vm_host.specs.declared.slots.Vms.{Vms}
use Rattle.vm_host.specs.Slots.{slot_in, calling}
use Rattle.law_vms.specs.Apart.{AllEnds}
use Rattle.law_vms.specs.MadeVms.{made_vms}
use Rattle.law_vms.specs.OwnChanges.{ArePlaced, ChangesItsOwn}
use Rattle.law_vms.specs.OwnEffects.{AsksForItsOwn}
use Rattle.law_vms.specs.Silent.{IsSilent, AreTied}
use Rattle.worker_model.specs.Plan.{Plan}
use Rattle.worker_model.specs.Rooms.{next_of}
use Rattle.worker_model.specs.Steps.{Both, both, step}
use Rattle.worker_model.specs.Turn.{Outcome, turn, without_sent, room_for_event}

-- A LIFE: whole turns one after the other, from one state to another, each at some event, whatever the shared stores reply and whatever is read.
pub data Lives (plan : Plan) : Both Vms → Both Vms → Type 0 where
  no_turn : (b : Both Vms) → Lives plan b b
  one_turn : (b e : Both Vms) (event : Event) (ms : List Met) (out : Outcome Vms) → Reaches (turn calling plan b event) ms (ends out) → Lives plan out.state e → Lives plan b e

-- THE SAME STEP BY STEP: states that come one after the other within turns too, each step that which is next
pub data Goes (plan : Plan) : Both Vms → Both Vms → Type 0 where
  no_step : (b : Both Vms) → Goes plan b b
  one_step : (b m e : Both Vms) (ms : List Met) → Reaches (step calling plan (next_of b.room) b.host b.room) ms (ends m) → Goes plan m e → Goes plan b e
  next_turn : (b e : Both Vms) (event : Event) → Goes plan (both b.host (room_for_event plan event (without_sent b.room))) e → Goes plan b e

-- a VM that is no more
abbrev pub IsNoMore : (vm : ℕ) → Vms → Type 0
IsNoMore vm v = (slot_in v vm).live ≡ None

-- WHAT STAYS OVER A LIFE: each machine stands at the number of its contexts, and what says which callbacks are exported is of the module that runs; a VM
-- whose callback trapped or spent its fuel stays no more.
pub record StaysForLife (b e : Both Vms) : Type 0 where
  pub placed : ArePlaced b.host → ArePlaced e.host
  pub tied : AreTied b.host → AreTied e.host
  pub no_more : (vm : ℕ) → IsNoMore vm b.host → IsNoMore vm e.host
  -- and so nothing of it is run then, whatever is called
  pub silent : (vm : ℕ) (name : Callback) (context first second now : ℕ) (contexts : Contexts) → IsNoMore vm b.host
      → IsSilent e.host contexts (calling e.host vm name context first second now contexts)

-- WHAT HOLDS OF EVERY CALLBACK of a life: it changes nothing that another VM has among the contexts, and asks the worker for contexts of its own VM alone.
pub record CallsAreOwn (b e : Both Vms) : Type 0 where
  pub changes : ArePlaced b.host → (vm : ℕ) (name : Callback) (context first second now : ℕ) (contexts : Contexts)
      → AllEnds (λ c. ChangesItsOwn vm contexts c.contexts) (calling e.host vm name context first second now contexts)
  pub asks : ArePlaced b.host → (vm : ℕ) (name : Callback) (context first second now : ℕ) (contexts : Contexts)
      → AllEnds (AsksForItsOwn vm contexts) (calling e.host vm name context first second now contexts)

-- a life that begins with the machines of a configuration
pub record BeginsSo (b e : Both Vms) : Type 0 where
  pub placed : (entries : List VmEntry) → b.host ≡ made_vms entries → ArePlaced e.host
  pub tied : (entries : List VmEntry) → b.host ≡ made_vms entries → AreTied e.host

pub record LivesKeepPlaces : Type 0 where
  pub turns : (plan : Plan) (b e : Both Vms) → Lives plan b e → StaysForLife b e
  pub steps : (plan : Plan) (b e : Both Vms) → Goes plan b e → StaysForLife b e
  pub calls : (plan : Plan) (b e : Both Vms) → Goes plan b e → CallsAreOwn b e
  pub begins : (plan : Plan) (b e : Both Vms) → Lives plan b e → BeginsSo b e
  pub goes : (plan : Plan) (b e : Both Vms) → Goes plan b e → BeginsSo b e
