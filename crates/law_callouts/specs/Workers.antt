-- EACH CALLOUT ENDS ONCE, of workers whose lines are HTTP and the machines that run modules: where each stands at the number of its contexts, as those of a worker that was made do.
use Rattle.std.specs.Prelude.{◌≡◌, ◌<◌, ◌≤◌, ℕ, true, List, [], ◌∷◌, Some}
use Rattle.callouts.specs.Callouts.{callout_in}
use Rattle.callouts.specs.Fates.{Fate, IsFate}
use Rattle.callouts.specs.declared.types.Callout.{Callout}
use Rattle.gate_io.specs.declared.event.Event.{Event}
use Rattle.vm_host.specs.Slots.{calling}
use Rattle.vm_host.specs.declared.slots.Vms.{Vms}
use Rattle.worker_model.specs.Plan.{Plan}
use Rattle.worker_model.specs.Rooms.{next_of}
use Rattle.worker_model.specs.Settling.{is_rest}
use Rattle.worker_model.specs.Steps.{Both}
use Rattle.law_meaning.specs.Walks.{Step}
use Rattle.law_vms.specs.OwnChanges.{ArePlaced}
use Rattle.law_callouts.specs.Ends.{Life, reports_in, IsNew, EndsBy, known_of, BeginsIn}
use Rattle.law_callouts.specs.Sound.{AreSound}

-- From a worker at rest in which a callout has just begun, over all events after that: it ends once, by its fate.
abbrev pub WorkersEndCalloutsOnce : Type 0
WorkersEndCalloutsOnce =
    (plan : Plan) (b e : Both Vms) (events : List Event) (all : List (Step Vms)) (c : Callout) (method : List ℕ) (fate : Fate)
    → ArePlaced b.host → AreSound b.room → is_rest (next_of b.room) ≡ true → callout_in c.id b.room.calls ≡ Some c → IsNew method c
    → Life calling plan b events all e → IsFate (known_of method c) events fate → EndsBy fate c all e

-- An id that was not drawn before a turn is reported on in no step of that turn. Where it was drawn by the turn's end, its callout is as it began.
abbrev pub WorkersBeginCalloutsNew : Type 0
WorkersBeginCalloutsNew =
    (plan : Plan) (b e : Both Vms) (event : Event) (all : List (Step Vms)) (id : ℕ)
    → ArePlaced b.host → AreSound b.room → is_rest (next_of b.room) ≡ true → b.room.hub.contexts.calls.last < id
    → Life calling plan b (event ∷ []) all e → (reports_in id all ≡ []) × (id ≤ e.room.hub.contexts.calls.last → BeginsIn id event.now e.room)

-- Machines keep their places, and callouts stay sound.
abbrev pub WorkersStaySound : Type 0
WorkersStaySound =
    (plan : Plan) (b e : Both Vms) (events : List Event) (all : List (Step Vms)) → ArePlaced b.host → AreSound b.room → Life calling plan b events all e
    → ArePlaced e.host × AreSound e.room
