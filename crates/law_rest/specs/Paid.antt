-- WHAT THE STEPS OF A WORKER'S TURNS COST IS PAID by what its events bring: whatever clients, servers and filters do, all its turns together take no
-- more steps than that.
use Rattle.std.specs.Prelude.{◌≡◌, ◌≤◌, ℕ, ◌+◌, ◌*◌, Bool, true, false, List, [], ◌∷◌, length, if◌then◌else◌}
use Rattle.filter_host.specs.Called.{Calling}
use Rattle.filter_host.specs.Course.{ends, Reaches}
use Rattle.gate_io.specs.Events.{is_stop}
use Rattle.gate_io.specs.declared.event.Event.{Event}
use Rattle.worker_model.specs.Room.{Room}
use Rattle.worker_model.specs.Settling.{settling}
use Rattle.worker_model.specs.State.{Setting, rules_of}
use Rattle.worker_model.specs.Steps.{Both}
use Rattle.worker_model.specs.Turn.{outcome_of, vms_in}
use Rattle.law_rest.specs.Left.{work_left, bytes_of}
use Rattle.law_rest.specs.Sizes.{vms_size, OneTurn, first_state, turn_start, Follow}

-- What an event brings at most: 248 steps for each of its bytes, 2 for each VM, each context (whose tick may be due) and each callout (which may be
-- due), and 921; and at the first event 66 for each plug-in, and 32.
abbrev pub starting : Room → ℕ
starting room = if room.is_begun then 0 else 32 + 66 * length room.hub.contexts.plugins

abbrev pub brought : Room → Event → ℕ
brought room event = 248 * length (bytes_of event.what) + 2 * vms_size (vms_in room) room.hub.contexts + 2 * length room.calls + 921 + starting room

-- all that is brought by turns one after the other
abbrev pub all_brought : {H : Type 0} → Both H → List (OneTurn H) → ℕ
all_brought state [] = 0
all_brought state (t ∷ turns) = brought state.room t.event + all_brought t.end.state turns

-- A turn comes to its end in at most so many steps. (At Stop nothing is done.)
abbrev pub TakesBy : {H : Type 0} → (stop : Bool) → Calling H → Setting → Both H → OneTurn H → ℕ → Type 0
TakesBy true calling setting state t k = k ≡ 0
TakesBy {H} false calling setting state t k =
    (c : Both H) × Reaches (settling calling (rules_of setting) k state.host (turn_start setting state t.event)) t.met (ends c) × (t.end ≡ outcome_of c)

-- turns one after the other take at most so many
abbrev pub TakeAll : {H : Type 0} → Calling H → Setting → Both H → List (OneTurn H) → ℕ → Type 0
TakeAll calling setting state [] total = total ≡ 0
TakeAll calling setting state (t ∷ turns) total =
    (k more : ℕ) × TakesBy (is_stop t.event.what) calling setting state t k × TakeAll calling setting t.end.state turns more × (total ≡ k + more)

-- ALL TURNS OF A WORKER, from the room that it was made with on, take no more steps than their events brought, less what is left to do after them.
abbrev pub LivesArePaid : (H : Type 0) → Type 0
LivesArePaid H =
    (calling : Calling H) (setting : Setting) (host : H) (turns : List (OneTurn H)) (last : Both H)
    → Follow calling setting (first_state setting host) turns last
    → (total : ℕ) × (total + work_left 16 last.room ≤ all_brought (first_state setting host) turns)
    × TakeAll calling setting (first_state setting host) turns total
